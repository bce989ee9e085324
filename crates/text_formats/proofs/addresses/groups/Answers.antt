use Rattle.std.proofs.Common.{◌∙◌, ◌+◌, ap, arith, option_map, sym}
use Rattle.text_formats.proofs.Parting.{groups_counted, groups_ended, groups_refused}
use Rattle.text_formats.proofs.addresses.groups.Goals as goal

pub returns-then-not-is_group-clause-groups : goal.returns-then-not-is_group-clause-groups
returns-then-not-is_group-clause-groups c =
    sym (groups_refused c.args.ending c.args.text.now c.loop-group.rest.now c.in-Some.group.now c.in-Some.left.now c.loop-group.count
    c.loop-group.invariant.counted c.in-Some.ensures.cut (sym c.if-not-is_group.ensures.group))

pub loop-group-preserved : goal.loop-group-preserved
loop-group-preserved c = record {
  counted = groups_counted c.args.ending c.args.text.now c.loop-group.rest.now c.in-Some.group.now c.in-Some.left.now c.loop-group.count
      c.loop-group.invariant.counted c.in-Some.ensures.cut (sym c.if-not-is_group.ensures.group);
  few = omega (arith, c.loop-group.invariant.few, c.in-Some.ensures.shorter);
}

pub returns-in-Some-last_groups-clause-groups : goal.returns-in-Some-last_groups-clause-groups
returns-in-Some-last_groups-clause-groups c =
    sym (groups_ended c.args.ending c.args.text.now c.loop-group.rest.now c.loop-group.count c.loop-group.invariant.counted c.in_default.ensures.cut
    ∙ ap (option_map (λ n. c.loop-group.count + n)) (sym c.in-Some-last_groups.ensures.groups))

pub returns-in-None-clause-groups : goal.returns-in-None-clause-groups
returns-in-None-clause-groups c =
    sym (groups_ended c.args.ending c.args.text.now c.loop-group.rest.now c.loop-group.count c.loop-group.invariant.counted c.in_default.ensures.cut
    ∙ ap (option_map (λ n. c.loop-group.count + n)) (sym c.in-None.ensures.groups))

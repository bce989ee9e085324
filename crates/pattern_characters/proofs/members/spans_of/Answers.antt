use Rattle.std.proofs.Common.{◌≡◌, ap, ◌∙◌, []}
use Rattle.pattern_trees.specs.Sets.{in_set}
use Rattle.pattern_characters.specs.Sets.{Spans, with_more, others}
use Rattle.pattern_characters.proofs.OfMembers.{unless_others}
use Rattle.pattern_characters.proofs.members.spans_of.Goals as goal

pub returns-then-negated : goal.returns-then-negated
returns-then-negated c =
    let e : c.in_ok-spans.spans.items.items ≡ with_more [] (in_set c.args.ranges.now) = c.in_ok-spans.ensures.more ∙ ap (λ (v : Spans). with_more v (in_set c.args.ranges.now)) c.new.ensures.none in
    record { spans = c.in_ok-others.ensures.others ∙ ap others e ∙ unless_others c.args.ranges.now c.args.negated c.if-negated.true }

use Rattle.std.proofs.Common.{◌∙◌, rules}
use Rattle.std.proofs.lemmas.Fn.{filter_same}
use Rattle.json_values.specs.Keys.{is_shared}
use Rattle.json_values.proofs.Slots.{distinct_if_shared}
use Rattle.json_values.proofs.distinct.are_distinct_by_slots.Goals as goal

pub returns : goal.returns
returns g c =
    let met = c.in_ok-met.met.items in
    let kept = filter_same _ (λ k. is_shared met k.0) _ (λ x b f' k. search rules) _ _ c.retain.ensures.filtered in
    record {
      distinct = distinct_if_shared g.T.PartialEq.eq met c.args.keyed.items c.deref.result.now c.deref_mut.result.now c.are_distinct_by_sorting.result
          c.deref.ensures.value c.in_ok-met.ensures.marked (c.deref_mut.ensures.value ∙ kept) c.are_distinct_by_sorting.ensures.distinct;
    }

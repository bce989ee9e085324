use Rattle.std.proofs.Common.{◌≡◌, ◌∙◌, ◌<◌, arith, get_or, length, length-set, map, rules}
use Rattle.std.proofs.lemmas.List.{get_or-map, get_or_default}
use Rattle.json_values.specs.Keys.{slot_of}
use Rattle.json_values.proofs.Slots.{have_one_more, mark_one_more}
use Rattle.json_values.proofs.distinct.count_slots.Goals as goal
use Rattle.json_values.proofs.distinct.count_slots.Goals.{then-index-eq-NONE, else-index-eq-NONE}

pub loop-item-preserved : goal.loop-item-preserved
loop-item-preserved g c =
    let met = c.loop-item.met.items in
    let s = c.slot_of-slot.result in
    let v = c.if-index-eq-NONE.mark in
    let keys = map (λ k. k.0) c.args.keyed.now in
    let within : s < length met = search rules in
    let is : s ≡ slot_of (get_or keys c.loop-item.item-index 0) (length met) =
    let first = get_or-map (λ k. k.0) c.args.keyed.now c.loop-item.item-index c.item-item.result 0 c.loop-item-test.true in cc in
    let read : c.index.result.now ≡ get_or met s 0 = c.index.ensures ∙ get_or_default met s c.index.result.now 0 within in
    let positive : 0 < v = elim c.if-index-eq-NONE.branch [ then-index-eq-NONE w ↦ omega arith | else-index-eq-NONE w ↦ omega arith ] in
    let more : 0 < get_or met s 0 → v ≡ 2 = λ some. elim c.if-index-eq-NONE.branch [ then-index-eq-NONE w ↦ omega arith | else-index-eq-NONE w ↦ omega arith ] in
    record {
      as_long = length-set met s v ∙ c.loop-item.invariant.as_long;
      some = have_one_more met keys c.loop-item.item-index s v within is c.loop-item.invariant.some positive;
      marked = mark_one_more met keys c.loop-item.item-index s v within is c.loop-item.invariant.some more c.loop-item.invariant.marked;
    }

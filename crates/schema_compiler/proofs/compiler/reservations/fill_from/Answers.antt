use Rattle.std.proofs.Common.{◌≡◌, ℕ, ◌<◌, ◌+◌, suc, Some, length, map, refl, ap, sym, ◌∙◌, arith}
use Rattle.std.specs.Prelude.{option_map, slice_get, slice_set}
use Rattle.std.proofs.lemmas.List.{length-map, map-set}
use Rattle.std.proofs.lemmas.Option.{slice_get-map, slice_get_read}
use Rattle.schema_compiler.specs.Reserving.{with_node, with_nodes_from}
use Rattle.schema_compiler.specs.ReservedViews.{node_of, reserved_of}
use Rattle.schema_compiler.proofs.Reserving.{filled_all, filled_next}
use Rattle.schema_compiler.proofs.compiler.reservations.fill_from.Goals as goal

pub loop-number-preserved : goal.loop-number-preserved
loop-number-preserved c =
    let node = node_of c.args.node in
    let items = c.loop-number.items.items in
    let i = c.loop-number.number in
    let x = c.index_mut.result.now in
    let less : i < length items = let l = c.loop-number-test.true in let e = c.len.ensures in omega (arith, e) in
    let at : slice_get items i ≡ Some x = slice_get_read items (length items) i x refl less c.index_mut.ensures.value in
    let here : slice_get (map reserved_of items) i ≡ Some (reserved_of x) = slice_get-map reserved_of items i ∙ ap (option_map reserved_of) at in
    let set : map reserved_of (slice_set items i c.fill.new.self) ≡ slice_set (map reserved_of items) i (with_node node (reserved_of x))
    = map-set reserved_of items i c.fill.new.self ∙ ap (slice_set (map reserved_of items) i) c.fill.ensures.filled in
    let next : i + 1 ≡ suc i = omega arith in
    ap (λ (n : ℕ). with_nodes_from n node (map reserved_of (slice_set items i c.fill.new.self))) next ∙ ap (with_nodes_from (suc i) node) set
    ∙ filled_next node i (map reserved_of items) (reserved_of x) here ∙ c.loop-number.invariant

pub returns : goal.returns
returns c =
    let node = node_of c.args.node in
    let items = c.loop-number.items.items in
    let over : c.loop-number.number < length (map reserved_of items) → ⊥ = λ l. let e = c.len.ensures in let f = c.loop-number-test.false in let m = length-map items reserved_of in omega (arith, e, m) in
    record { filled = sym (filled_all node c.loop-number.number (map reserved_of items) over) ∙ c.loop-number.invariant }

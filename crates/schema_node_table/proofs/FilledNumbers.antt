-- Whether a number of the code's table has its form, and whether it waits.
use Rattle.std.proofs.Common.{◌≡◌, ℕ, ◌<◌, true, false, List, length, map, refl, sym, ap, arith, true≢false}
use Rattle.std.specs.Prelude.{Option, Some, None, slice_get, slice_index_or, is_some, option_map}
use Rattle.std.proofs.lemmas.List.{length-map}
use Rattle.std.proofs.lemmas.Option.{slice_get_read}
use Rattle.schema_node_table.specs.declared.node.Node.{Node}
use Rattle.schema_node_table.specs.declared.node.NodeForm.{NodeForm}
use Rattle.schema_node_table.specs.NodeViews.{node_of, plan_of}
use Rattle.schema_node_table.specs.NodeTable.{IsReserved, IsFilled, Waits, IsBegun, IsOrdered}
use Rattle.schema_node_table.proofs.NodesFilled.{in_map}

module _ {K : Type 0} (items : List (Node K)) (i : ℕ) (x : Node K) (h : i < length (map node_of items)) (is : x ≡ slice_index_or items i x) where
  there : slice_get (map node_of items) i ≡ Some (node_of x)
  there = in_map node_of items i x (slice_get_read items (length items) i x refl (omega (arith, length-map items node_of)) is)

  pub has_form : is_some x.form ≡ true → IsFilled (map node_of items) i
  has_form e =
      let go : (o : Option (NodeForm K)) → x.form ≡ o → is_some o ≡ true → IsFilled (map node_of items) i = elim [
        | None ↦ λ q f. absurd (true≢false (sym f))
        | Some form ↦ λ q f. (node_of x, plan_of form, there, ap (option_map plan_of) q)
      ] in
      go x.form refl e

  pub has_none : is_some x.form ≡ false → IsReserved (map node_of items) i
  has_none e =
      let go : (o : Option (NodeForm K)) → x.form ≡ o → is_some o ≡ false → IsReserved (map node_of items) i = elim [
        | None ↦ λ q f. (node_of x, there, ap (option_map plan_of) q)
        | Some form ↦ λ q f. absurd (true≢false f)
      ] in
      go x.form refl e

  pub has_no_round : (finished : ℕ) → IsOrdered (map node_of items) finished → is_some x.round ≡ false → Waits (map node_of items) i
  has_no_round finished o e =
      let go : (o : Option (NodeForm K)) (r : Option ℕ) → x.form ≡ o → x.round ≡ r → is_some r ≡ false → Waits (map node_of items) i = elim [
        | None ↦ elim [
          | None ↦ λ q r f. (node_of x, there, ap (option_map plan_of) q, r)
          | Some k ↦ λ q r f. absurd (true≢false f)
        ]
        | Some form ↦ elim [
          | None ↦ λ q r f. absurd (let l = o.ordered i (node_of x) (plan_of form) there (ap (option_map plan_of) q) in let b : x.round ≡ Some l.round = l.begun in let g : ⊥ = cc in g)
          | Some k ↦ λ q r f. absurd (true≢false f)
        ]
      ] in
      go x.form x.round refl refl e

  pub has_round : is_some x.round ≡ true → IsBegun (map node_of items) i
  has_round e =
      let go : (r : Option ℕ) → x.round ≡ r → is_some r ≡ true → IsBegun (map node_of items) i = elim [
        | None ↦ λ q f. absurd (true≢false (sym f))
        | Some k ↦ λ q f. (node_of x, k, there, q)
      ] in
      go x.round refl e

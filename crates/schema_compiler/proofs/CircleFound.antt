-- The order in which a cycle of three keys is found, with nested targets and with none. The first
-- requests the second by a reference, the second the third as a subschema, and the third the first.
use Rattle.std.proofs.Common.{◌≡◌, ◌≢◌, ℕ, zero, suc, true, false, [], ◌∷◌, ◌++◌, length, refl, ap, sym, ◌∙◌, subst, arith, true≢false}
use Rattle.std.specs.Prelude.{Bool, Some, slice_get}
use Rattle.theory_definitions.specs.Parts.{Parts}
use Rattle.theory_definitions.specs.Plan.{Edge, Key}
use Rattle.theory_meaning.specs.Reach.{asked_edges}
use Rattle.schema_compiler.specs.Finding.{Course, Finds, FindsAll, and_then, at_end, at_root, begun, closed, formed, in_a_round, is_formed, is_opened, is_put, nests, no_more, passed, passes_over, put, round_begun, waits, was_found}
use Rattle.schema_keys.proofs.Lists.{some_is}

waits_not : (round order : ℕ) (settled : Bool) → Some (is_formed round order settled) ≢ Some waits
waits_not round order settled e = let g : ⊥ = cc in g

module _ {S K R : Type 0} (w : Parts S K R) (a : Key S) (x y z : Edge S) (asks_a : asked_edges w a ≡ x ∷ []) (asks_b : asked_edges w x.key ≡ y ∷ []) (asks_c : asked_edges w y.key ≡ z ∷ [])
    (to_a : z.key ≡ a) (reference : nests x ≡ true) (subschema : nests y ≡ false) (not_b : a ≢ x.key) (not_c : a ≢ y.key) (apart : x.key ≢ y.key) where
  new_b : (i : ℕ) → slice_get (a ∷ []) i ≢ Some x.key
  new_b zero e = not_b (some_is a x.key e)
  new_b (suc i) e = let g : ⊥ = cc in g

  new_c : (i : ℕ) → slice_get (a ∷ x.key ∷ []) i ≢ Some y.key
  new_c zero e = not_c (some_is a y.key e)
  new_c (suc zero) e = apart (some_is x.key y.key e)
  new_c (suc (suc i)) e = let g : ⊥ = cc in g

  module _ (nested : ℕ) where
    -- the third key requests the first, which has a number, from any course that begins with it
    finds_a : (c : Course S) → slice_get c.keys 0 ≡ Some a → Finds w nested c (asked_edges w y.key) (passed c 0)
    finds_a c at = subst (λ es. Finds w nested c es (passed c 0)) (sym asks_c) (and_then c 0 (was_found (at ∙ ap Some (sym to_a))) no_more)

    -- if the second key is in progress, the third is compiled at once
    abbrev third : Course S → Course S
    third c = closed c (passed (begun c y) 0)

    finds_c : (c : Course S) → c.keys ≡ a ∷ x.key ∷ [] → Finds w nested c (asked_edges w x.key) (passed (third c) 2)
    finds_c c keys = subst (λ es. Finds w nested c es (passed (third c) 2)) (sym asks_b) (and_then (third c) 2
        (is_opened (passed (begun c y) 0) (λ i. subst (λ ks. slice_get ks i ≢ Some y.key) (sym keys) (new_c i)) (λ e. absurd (true≢false (sym e ∙ subschema)))
        (finds_a (begun c y) (ap (λ ks. slice_get (ks ++ y.key ∷ []) 0) keys)) refl (ap length (sym keys)))
        no_more)

  -- ---- with targets nested

  abbrev opened : Course S
  opened = begun (round_begun (at_root a) 0) x

  abbrev second : Course S
  second = closed (round_begun (at_root a) 0) (passed (third 8 opened) 2)

  finds_nested : Finds w 8 (round_begun (at_root a) 0) (asked_edges w a) (passed second 1)
  finds_nested = subst (λ es. Finds w 8 (round_begun (at_root a) 0) es (passed second 1)) (sym asks_a) (and_then second 1
      (is_opened (passed (third 8 opened) 2) new_b (λ e. omega arith) (finds_c 8 opened refl) refl refl)
      no_more)

  pub found_nested : FindsAll w 8 a (a ∷ x.key ∷ y.key ∷ []) (is_formed 0 2 false ∷ is_formed 0 1 false ∷ is_formed 0 0 false ∷ [])
  found_nested = (
    formed (passed second 1) 0,
    in_a_round a (passed second 1) refl refl finds_nested (passes_over (omega arith) (waits_not 0 1 false) (passes_over (omega arith) (waits_not 0 0 false) (at_end (omega arith)))),
    refl,
    refl,
  )

  -- ---- with none

  abbrev waiting : Course S
  waiting = put (round_begun (at_root a) 0) x.key

  abbrev root_formed : Course S
  root_formed = formed (passed waiting 1) 0

  finds_waiting : Finds w 0 (round_begun (at_root a) 0) (asked_edges w a) (passed waiting 1)
  finds_waiting = subst (λ es. Finds w 0 (round_begun (at_root a) 0) es (passed waiting 1)) (sym asks_a) (and_then waiting 1 (is_put new_b reference (omega arith) refl refl) no_more)

  abbrev again : Course S
  again = round_begun root_formed 1

  pub found_waiting : FindsAll w 0 a (a ∷ x.key ∷ y.key ∷ []) (is_formed 0 0 false ∷ is_formed 1 2 false ∷ is_formed 1 1 false ∷ [])
  found_waiting = (
    formed (passed (third 0 again) 2) 1,
    in_a_round a (passed waiting 1) refl refl finds_waiting (in_a_round x.key (passed (third 0 again) 2) refl refl (finds_c 0 again refl) (passes_over (omega arith) (waits_not 1 1 false) (at_end (omega arith)))),
    refl,
    refl,
  )

-- Parts whose keys request the same find them in the same order.
use Rattle.std.proofs.Common.{◌≡◌, ℕ, List, subst}
use Rattle.theory_definitions.specs.Parts.{Parts}
use Rattle.theory_definitions.specs.Plan.{Edge, Key}
use Rattle.theory_meaning.specs.Reach.{asked_edges}
use Rattle.schema_compiler.specs.Finding.{Course, Finds, FindsAll, Standing, Visits, WorksOff, and_then, at_end, in_a_round, is_opened, is_put, no_more, passes_over, was_found, begun, round_begun}

module _ {S K K' R R' : Type 0} (w : Parts S K R) (w' : Parts S K' R') (same : (k : Key S) → asked_edges w k ≡ asked_edges w' k) (nested : ℕ) where
  mutual
    pub visits_too : {c : Course S} {e : Edge S} {d : Course S} {i : ℕ} → Visits w nested c e d i → Visits w' nested c e d i
    visits_too (was_found at) = was_found at
    visits_too (is_put new nests full is at) = is_put new nests full is at
    visits_too {c} {e} (is_opened d new room finds is at) = is_opened d new room (subst (λ es. Finds w' nested (begun c e) es d) (same e.key) (finds_too finds)) is at

    pub finds_too : {c : Course S} {es : List (Edge S)} {d : Course S} → Finds w nested c es d → Finds w' nested c es d
    finds_too no_more = no_more
    finds_too (and_then d i visit rest) = and_then d i (visits_too visit) (finds_too rest)

  pub works_too : {i : ℕ} {c d : Course S} → WorksOff w nested i c d → WorksOff w' nested i c d
  works_too (at_end l) = at_end l
  works_too (passes_over l other rest) = passes_over l other (works_too rest)
  works_too {i} {c} (in_a_round k d at waits finds rest) = in_a_round k d at waits (subst (λ es. Finds w' nested (round_begun c i) es d) (same k) (finds_too finds)) (works_too rest)

  pub finds_all_too : (root : Key S) (keys : List (Key S)) (standings : List Standing) → FindsAll w nested root keys standings → FindsAll w' nested root keys standings
  finds_all_too root keys standings h = (h.0, works_too h.1, h.2, h.3)

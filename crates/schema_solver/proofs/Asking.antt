-- What the functions of a solver pass to those that they call.
use Rattle.std.proofs.Common.{◌≡◌, ◌∙◌, ℕ, ◌≤◌, ◌+◌, ◌==◌, ◌++◌, true, List, [], ◌∷◌, length, ap, arith}
use Rattle.std.specs.Prelude.{Contains, Some, option_and_then}
use Rattle.std.specs.List.{list_any}
use Rattle.std.proofs.lemmas.List.{length-append}
use Rattle.std.proofs.lemmas.List.Elements.{All-contains, All-weaker}
use Rattle.theory_definitions.specs.Instance.{Place, Step, Subject, after_step}
use Rattle.theory_definitions.specs.Guarded.{NodeEdge, node_edges}
use Rattle.theory_meaning.proofs.Falls.{from_below}
use Rattle.schema_solver_state.specs.Contexts.{Solver}
use Rattle.schema_solver.specs.Solving.{HasEachCut, IsEdge, MaySolve, Setting, is_cut}

module _ {K R : Type 0} (g : Setting K R) where
  -- a number that a cut edge of the table leads to is among each list that has all of them
  pub edge_among : (e : NodeEdge) → IsEdge g e → is_cut g.is_followed e ≡ true → (ns : List ℕ) → HasEachCut g ns → list_any (λ n. e.node == n) ns ≡ true
  edge_among e is cut ns each = All-contains (λ e. is_cut g.is_followed e ≡ true → list_any (λ n. e.node == n) ns ≡ true) (node_edges (g.nodes.entries is.0)) e (each is.0 is.1) is.2 cut

  -- the target of an edge may be evaluated if the number may
  pub may_cross : (c : Solver) (s : Subject) (p : Place) (i : ℕ) (e : NodeEdge) → MaySolve g c s p i → Contains (node_edges (g.nodes.entries i)) e → MaySolve g c s p e.node
  may_cross c s p i e may is = record {
    known = (may.ranked i may.known e is).0;
    ranked = may.ranked;
    finishes = may.finishes;
    above = may.above;
    stands = may.stands;
    sound = may.sound;
  }

  -- and one step below, of what the step leads to
  pub may_go_below : (c : Solver) (s : Subject) (p : Place) (i : ℕ) (step : Step) (t : Subject) → after_step step s ≡ Some t → MaySolve g c s p i → MaySolve g c t (p ++ step ∷ []) i
  may_go_below c s p i step t leads may = record {
    known = may.known;
    ranked = may.ranked;
    finishes = may.finishes;
    above = All-weaker (λ (e : ℕ × Place). length e.1 ≤ length p) (λ (e : ℕ × Place). length e.1 ≤ length (p ++ step ∷ []))
        (λ e low. let longer : length (p ++ step ∷ []) ≡ length p + 1 = length-append p (step ∷ []) in omega (arith, low, longer)) c.in_progress may.above;
    stands = from_below p step _ ∙ ap (option_and_then (after_step step)) may.stands ∙ leads;
    sound = may.sound;
  }

-- Why a solver stops, and what it leaves then.
use Rattle.std.proofs.Common.{◌≡◌, ◌∙◌, ℕ, ◌<◌, ◌≤◌, Bool, false, refl, subst, sym, true≢false}
use Rattle.std.specs.Prelude.{Err, IsErrAnd, Ok, Result, Some}
use Rattle.theory_definitions.specs.Instance.{Place}
use Rattle.theory_definitions.specs.Guarded.{Children, node_keyword}
use Rattle.schema_run_steps.specs.NodeRuns.{HasForm}
use Rattle.theory_fixed_points.specs.Under.{Solving}
use Rattle.theory_fixed_points.specs.Found.{Found}
use Rattle.schema_solver_state.specs.Contexts.{Solver}
use Rattle.schema_solver_state.specs.Answering.{Begins}
use Rattle.schema_solver.specs.declared.question.Stopped.{Stopped}
use Rattle.schema_solver.specs.declared.question.Stopped.TheVariants.{Depth, Leans, Limit, OutOfMemory}
use Rattle.schema_solver.specs.Solved.{Solved, Stops, Turned}
use Rattle.schema_solver.specs.Solving.{Goes, HasRoom, IsNew, Setting, StaysWithin}
use Rattle.schema_solver.proofs.Going.{late_on}
use Rattle.schema_solver.proofs.PairSteps.{late_begun, late_here, within_begun}
use Rattle.schema_solver.proofs.Turned.{keyword_says}

leans_is_no_limit : ¬ (Leans ≡ Limit)
leans_is_no_limit is = cc

memory_is_no_limit : ¬ (OutOfMemory ≡ Limit)
memory_is_no_limit is = cc

pub depth_is_no_limit : ¬ (Depth ≡ Limit)
depth_is_no_limit is = cc

-- none of these reasons is a provisional "valid"
memory_is_no_lean : ¬ (OutOfMemory ≡ Leans)
memory_is_no_lean is = cc

limit_is_no_lean : ¬ (Limit ≡ Leans)
limit_is_no_lean is = cc

depth_is_no_lean : ¬ (Depth ≡ Leans)
depth_is_no_lean is = cc

module _ {K R : Type 0} (g : Setting K R) (says : K → Bool) where
  -- after a step
  pub stops_on : (p : Place) (a b c : Solver) (e : Stopped) → Goes g p a b → Stops g says b c e → Stops g says a c e
  stops_on p a b c e went stops = record {
    reason = stops.reason;
    within = λ most limit few. stops.within most limit (went.within most limit few);
    late = λ is. late_on g p a b went (stops.late is);
  }

  -- before what begins no pair
  pub stops_still : (a b c : Solver) (e : Stopped) → Stops g says a b e → c.begun ≡ b.begun → Stops g says a c e
  stops_still a b c e stops same = record {
    reason = stops.reason;
    within = λ most limit few. subst (λ k. k ≤ most) (sym same) (stops.within most limit few);
    late = stops.late;
  }

  -- for lack of memory
  pub stops_for_memory : (c c' : Solver) → StaysWithin g c c' → Stops g says c c' OutOfMemory
  stops_for_memory c c' within = record {
    reason = λ each. memory_is_no_lean;
    within = within;
    late = λ is. absurd (memory_is_no_limit is);
  }

  pub stops_here : (c : Solver) → Stops g says c c OutOfMemory
  stops_here c = stops_for_memory c c (λ most limit few. few)

  -- if no more may be begun
  pub stops_full : (c : Solver) (p : Place) (i : ℕ) → IsNew g c p i → (most : ℕ) → g.most ≡ Some most → most ≤ c.begun → Stops g says c c Limit
  stops_full c p i is_new most limit full = record {
    reason = λ each. limit_is_no_lean;
    within = λ most limit few. few;
    late = λ is. late_here g c p i is_new most limit full;
  }

  -- if no more may be under way
  pub stops_deep : (c : Solver) → Stops g says c c Depth
  stops_deep c = record {
    reason = λ each. depth_is_no_lean;
    within = λ most limit few. few;
    late = λ is. absurd (depth_is_no_limit is);
  }

  -- once a pair has been begun
  pub stops_begun : (a b c : Solver) (p : Place) (i : ℕ) (e : Stopped) → IsNew g a p i → HasRoom g a → Begins i p a b → Stops g says b c e → Stops g says a c e
  stops_begun a b c p i e is_new room begins stops = record {
    reason = stops.reason;
    within = λ most limit few. stops.within most limit (within_begun g a p i b begins room most limit few);
    late = λ is. late_begun g a p i is_new b begins (stops.late is);
  }

  -- because of a provisional "valid", only for a keyword that does not say that it is monotone
  pub stops_leaning : (i : ℕ) (m : K) (es : Children) → i < g.count → HasForm g.nodes i (node_keyword m es) → says m ≡ false
      → (p : Place) (c c' : Solver) → Goes g p c c' → Stops g says c c' Leans
  stops_leaning i m es l form silent p c c' went = record {
    reason = λ each. absurd (true≢false (sym (keyword_says g says i m es each l form) ∙ silent));
    within = went.within;
    late = λ is. absurd (leans_is_no_limit is);
  }

  -- so nothing is said
  pub solved_none : {T : Type 0} (p : Place) (c c' : Solver) (e : Stopped) (says_this : T → Solving K R → Found → Type 0) → Stops g says c c' e → Solved g says p c c' (Err e) says_this
  solved_none p c c' e says_this stops = record { goes = tt; marking = tt; says = tt; stops = stops }

  -- what a result of turns says that is such an error
  module _ (p : Place) (c c' : Solver) (e : Stopped) (m : K) where
    pub turned_stops : (result : Result Bool Stopped) (says_this : Bool → Bool → Solving K R → Found → Type 0) → IsErrAnd result (λ x. x ≡ e) → Stops g says c c' e → Turned g says p c c' result m says_this
    turned_stops (Ok x) says_this is stops = absurd is
    turned_stops (Err x) says_this is stops = record { goes = tt; says = tt; stops = subst (Stops g says c c') (sym is) stops }

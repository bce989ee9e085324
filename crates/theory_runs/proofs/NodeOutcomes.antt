-- The outcome of a run is the one of its nodes under the run's completion.
use Rattle.std.proofs.Common.{◌≡◌, ◌∙◌, ℕ, zero, suc, ◌==◌, Bool, true, false, List, ◌++◌, refl, sym, ap}
use Rattle.std.specs.List.{list_any}
use Rattle.theory_definitions.specs.Instance.{Place, Subject, Text}
use Rattle.theory_definitions.specs.Reports.{Outcome}
use Rattle.theory_definitions.specs.Matching.{Assumptions, Matcher, completion_of}
use Rattle.theory_definitions.specs.Keywords.{Below, Keywords, Mode, for_all, for_first, for_units, for_verdict}
use Rattle.theory_definitions.specs.Meaning.{place_below}
use Rattle.theory_definitions.specs.Runs.{Run, reply_in}
use Rattle.theory_definitions.specs.Guarded.{NodeEdge, Nodes, across, guarded_node, guarded_within, node_outcome, progress_below, yes_outcome, yes_run}
use Rattle.schema_run_steps.specs.ReplyModes.{reply_by}

module _ {K R : Type 0} (keywords : Keywords K R) (matcher : Matcher) (nodes : Nodes K) (subject_of : Place → Subject) (as' : Assumptions) where
  abbrev runs : ℕ → ℕ → Text → Place → List ℕ → Run
  runs = guarded_within (yes_run nodes) (guarded_node keywords matcher nodes subject_of as')

  abbrev says : ℕ → ℕ → Text → Place → List ℕ → Outcome
  says = guarded_within yes_outcome (node_outcome keywords matcher nodes subject_of (completion_of as'))

  by_guard : (g t : Bool) (y u v : Run) (y' u' v' : Outcome) → y.outcome tt ≡ y' → u.outcome tt ≡ u' → v.outcome tt ≡ v'
      → ◌≡◌ {A = Outcome} ((elim g as (λ g. Run) [ false ↦ u | true ↦ elim t as (λ t. Run) [ true ↦ y | false ↦ v ] ]).outcome tt) (elim g [ false ↦ u' | true ↦ elim t [ true ↦ y' | false ↦ v' ] ])
  by_guard false t y u v y' u' v' f h k = h
  by_guard true true y u v y' u' v' f h k = f
  by_guard true false y u v y' u' v' f h k = k

  pub across_is : (n : ℕ) → ((i : ℕ) (path : Text) (p : Place) (busy : List ℕ) → (runs n i path p busy).outcome tt ≡ says n i path p busy) → (path : Text) (p : Place) (busy : List ℕ) (e : NodeEdge) (b : Below)
      → (across (yes_run nodes) (guarded_node keywords matcher nodes subject_of as') (runs n) path p busy e b).outcome tt ≡ across yes_outcome (node_outcome keywords matcher nodes subject_of (completion_of as')) (says n) path p busy e b
  across_is n h path p busy e b = by_guard e.guarded (list_any (λ i. i == e.node) (progress_below busy b)) (yes_run nodes e.node (path ++ e.path) (place_below p b)) _ _ (yes_outcome e.node (path ++ e.path) (place_below p b)) _ _ refl (h e.node _ _ _) (h e.node _ _ _)

  pub outcome_is : (n i : ℕ) (path : Text) (p : Place) (busy : List ℕ) → (runs n i path p busy).outcome tt ≡ says n i path p busy
  outcome_is zero i path p busy = refl
  outcome_is (suc n) i path p busy =
      let each = across_is n (outcome_is n) path p busy in
      λ j. node_outcome keywords matcher nodes subject_of (completion_of as') i path p (λ e b. each e b j)

  pub reply_is : (mode : Mode) → ¬ (mode ≡ for_units) → (n i : ℕ) (path : Text) (p : Place) (busy : List ℕ) → reply_by mode (says n i path p busy) ≡ reply_in mode (runs n i path p busy)
  reply_is mode less n i path p busy = ap (reply_by mode) (sym (outcome_is n i path p busy)) ∙ by mode less
    where
      by : (mode : Mode) → ¬ (mode ≡ for_units) → reply_by mode ((runs n i path p busy).outcome tt) ≡ reply_in mode (runs n i path p busy)
      by for_verdict h = refl
      by for_first h = refl
      by for_all h = refl
      by for_units h = absurd (h refl)

-- In each mode without units, a detour requests no units of a child.
use Rattle.std.proofs.Common.{Bool, suc, sym, zero, ℕ, ◌∙◌}
use Rattle.theory_definitions.specs.Instance.{Subject}
use Rattle.theory_definitions.specs.Keywords.{Answer, Reply, no_reply}
use Rattle.schema_traits.specs.KeywordViews.{fresh}
use Rattle.schema_traits.specs.UnitQuestions.{AlwaysAsksForLess, AsksNoUnits}
use Rattle.standard_basics.specs.declared.names.NamesRun.{NamesRun}
use Rattle.test_parts.specs.Detours.{Detour, detour_words, matches_before}
use Rattle.standard_basics.specs.Words.{run_way, words}
use Rattle.keyword_authoring.specs.WayUnits.{WantsNone, mode-kept, step_for_less}

-- each turn keeps the run's mode
turns_for_less : (texts : Bool) (m : Detour) (s : Subject) (n left : ℕ) (r : NamesRun × Answer) (reply : Reply) → WantsNone r.0.progress.mode
    → AlwaysAsksForLess (detour_words texts) m s n ((left, r.0), r.1) reply
turns_for_less texts m s zero left r reply none = tt
turns_for_less texts m s (suc n) zero r reply none =
    (step_for_less (run_way texts (m.1, r.0.names) s) r.0.progress.mode r.0.progress.stage reply none, λ next. turns_for_less texts m s n 0 ((words texts).turn m.1 s r reply) next none)
turns_for_less texts m s (suc n) (suc k) r reply none = (tt, λ next. turns_for_less texts m s n k r next none)

-- only evaluations request units
pub detour_asks_no_units : (texts : Bool) → AsksNoUnits (detour_words texts)
detour_asks_no_units texts = λ m s mode' none.
    turns_for_less texts m s ((detour_words texts).most_turns m s) (matches_before m.0 mode') (((words texts).begin m.1 s mode').0, fresh mode') no_reply (λ e. none (sym (mode-kept mode') ∙ e))

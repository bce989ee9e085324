-- A run asks no child for its units unless its mode requests units.
use Rattle.std.proofs.Common.{Bool, suc, sym, zero, ℕ, ◌∙◌}
use Rattle.theory_definitions.specs.Instance.{Subject}
use Rattle.theory_definitions.specs.Keywords.{Answer, Reply, no_reply}
use Rattle.schema_traits.specs.UnitQuestions.{AlwaysAsksForLess, AsksNoUnits}
use Rattle.keyword_authoring.specs.WayUnits.{WantsNone, mode-kept, step_for_less}
use Rattle.standard_basics.specs.BasicShape.{BasicShape}
use Rattle.standard_basics.specs.declared.names.NamesRun.{NamesRun}
use Rattle.standard_basics.specs.Words.{run_way, words}

-- Each turn keeps the run's mode.
turns_for_less : (texts : Bool) (m : BasicShape) (s : Subject) (n : ℕ) (r : NamesRun × Answer) (reply : Reply) → WantsNone r.0.progress.mode
    → AlwaysAsksForLess (words texts) m s n r reply
turns_for_less texts m s zero r reply none = tt
turns_for_less texts m s (suc n) r reply none =
    (step_for_less (run_way texts (m, r.0.names) s) r.0.progress.mode r.0.progress.stage reply none, λ next. turns_for_less texts m s n ((words texts).turn m s r reply) next none)

-- Only evaluations ask for units.
pub basics_ask_no_units : (texts : Bool) → AsksNoUnits (words texts)
basics_ask_no_units texts = λ m s mode' none.
    turns_for_less texts m s ((words texts).most_turns m s) ((words texts).begin m s mode') no_reply (λ e. none (sym (mode-kept mode') ∙ e))

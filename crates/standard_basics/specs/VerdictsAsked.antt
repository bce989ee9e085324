-- A run for the verdict asks only for verdicts.
use Rattle.std.proofs.Common.{Bool, refl, suc, zero, ℕ}
use Rattle.theory_definitions.specs.Instance.{Subject}
use Rattle.theory_definitions.specs.Keywords.{Answer, Reply, for_verdict, no_reply}
use Rattle.theory_definitions.specs.Remembering.{AlwaysAsksVerdict, EachAsksVerdicts}
use Rattle.keyword_authoring.specs.WayVerdicts.{WantsVerdict, step_for_verdict}
use Rattle.standard_basics.specs.BasicShape.{BasicShape}
use Rattle.standard_basics.specs.declared.names.NamesRun.{NamesRun}
use Rattle.standard_basics.specs.Words.{run_way, words}

-- Each turn keeps the run's mode.
turns_for_verdict : (texts : Bool) (m : BasicShape) (s : Subject) (n : ℕ) (r : NamesRun × Answer) (reply : Reply) → WantsVerdict r.0.progress.mode
    → AlwaysAsksVerdict (words texts) m s n r reply
turns_for_verdict texts m s zero r reply wants = tt
turns_for_verdict texts m s (suc n) r reply wants =
    (step_for_verdict (run_way texts (m, r.0.names) s) r.0.progress.mode r.0.progress.stage reply wants, λ next. turns_for_verdict texts m s n ((words texts).turn m s r reply) next wants)

-- If a verdict is requested, then only verdicts are asked for.
pub basics_ask_verdicts : (texts : Bool) → EachAsksVerdicts (words texts)
basics_ask_verdicts texts = λ m s. turns_for_verdict texts m s ((words texts).most_turns m s) ((words texts).begin m s for_verdict) no_reply refl

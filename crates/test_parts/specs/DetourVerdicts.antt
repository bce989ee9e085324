-- A detour's run for the verdict requests verdicts.
use Rattle.std.proofs.Common.{Bool, refl, suc, zero, ℕ}
use Rattle.theory_definitions.specs.Instance.{Subject}
use Rattle.theory_definitions.specs.Keywords.{Answer, Reply, for_verdict, no_reply}
use Rattle.theory_definitions.specs.Remembering.{AlwaysAsksVerdict, EachAsksVerdicts}
use Rattle.schema_traits.specs.KeywordViews.{fresh}
use Rattle.standard_basics.specs.declared.names.NamesRun.{NamesRun}
use Rattle.test_parts.specs.Detours.{Detour, detour_words, matches_before}
use Rattle.standard_basics.specs.Words.{run_way, words}
use Rattle.keyword_authoring.specs.WayVerdicts.{WantsVerdict, step_for_verdict}

-- each turn keeps the run's mode
turns_for_verdict : (texts : Bool) (m : Detour) (s : Subject) (n left : ℕ) (r : NamesRun × Answer) (reply : Reply) → WantsVerdict r.0.progress.mode
    → AlwaysAsksVerdict (detour_words texts) m s n ((left, r.0), r.1) reply
turns_for_verdict texts m s zero left r reply wants = tt
turns_for_verdict texts m s (suc n) zero r reply wants =
    (step_for_verdict (run_way texts (m.1, r.0.names) s) r.0.progress.mode r.0.progress.stage reply wants, λ next. turns_for_verdict texts m s n 0 ((words texts).turn m.1 s r reply) next wants)
turns_for_verdict texts m s (suc n) (suc k) r reply wants = (tt, λ next. turns_for_verdict texts m s n k r next wants)

-- if a verdict is wanted, only verdicts are requested
pub detour_asks_verdicts : (texts : Bool) → EachAsksVerdicts (detour_words texts)
detour_asks_verdicts texts = λ m s.
    turns_for_verdict texts m s ((detour_words texts).most_turns m s) (matches_before m.0 for_verdict) (((words texts).begin m.1 s for_verdict).0, fresh for_verdict) no_reply refl

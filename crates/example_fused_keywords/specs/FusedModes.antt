-- A run asks for units only in an evaluation, and a run for the verdict asks for verdicts.
use Rattle.std.proofs.Common.{Bool, refl, suc, sym, zero, ℕ, ◌∙◌}
use Rattle.theory_definitions.specs.Instance.{Subject}
use Rattle.theory_definitions.specs.Keywords.{Answer, Reply, for_verdict, no_reply}
use Rattle.theory_definitions.specs.Remembering.{AlwaysAsksVerdict, EachAsksVerdicts}
use Rattle.schema_traits.specs.UnitQuestions.{AlwaysAsksForLess, AsksNoUnits}
use Rattle.keyword_authoring.specs.WayUnits.{WantsNone, mode-kept, step_for_less}
use Rattle.keyword_authoring.specs.WayVerdicts.{WantsVerdict, step_for_verdict}
use Rattle.standard_basics.specs.BasicShape.{BasicShape}
use Rattle.standard_basics.specs.UnitsAsked.{basics_ask_no_units}
use Rattle.standard_basics.specs.VerdictsAsked.{basics_ask_verdicts}
use Rattle.standard_basics.specs.Words.{words}
use Rattle.standard_basics.specs.declared.names.NamesRun.{NamesRun}
use Rattle.example_fused_keywords.specs.FusedShape.{of_array, of_bench}
use Rattle.example_fused_keywords.specs.FusedWords.{fused_words, run_way}
use Rattle.example_fused_keywords.specs.declared.array.ArrayKeyword.{ArrayKeyword}

module _ (texts : Bool) (s : Subject) where
  -- a run of a basic keyword goes as it does by itself
  bench_for_less : (m : BasicShape) (n : ℕ) (r : NamesRun × Answer) (reply : Reply) → AlwaysAsksForLess (words texts) m s n r reply → AlwaysAsksForLess (fused_words texts) (of_bench m) s n r reply
  bench_for_less m zero r reply h = tt
  bench_for_less m (suc n) r reply h = (h.0, λ next. bench_for_less m n ((words texts).turn m s r reply) next (h.1 next))

  bench_for_verdict : (m : BasicShape) (n : ℕ) (r : NamesRun × Answer) (reply : Reply) → AlwaysAsksVerdict (words texts) m s n r reply → AlwaysAsksVerdict (fused_words texts) (of_bench m) s n r reply
  bench_for_verdict m zero r reply h = tt
  bench_for_verdict m (suc n) r reply h = (h.0, λ next. bench_for_verdict m n ((words texts).turn m s r reply) next (h.1 next))

  -- each turn keeps the run's mode
  array_for_less : (k : ArrayKeyword) (n : ℕ) (r : NamesRun × Answer) (reply : Reply) → WantsNone r.0.progress.mode → AlwaysAsksForLess (fused_words texts) (of_array k) s n r reply
  array_for_less k zero r reply none = tt
  array_for_less k (suc n) r reply none =
      (step_for_less (run_way k s r) r.0.progress.mode r.0.progress.stage reply none, λ next. array_for_less k n ((fused_words texts).turn (of_array k) s r reply) next none)

  array_for_verdict : (k : ArrayKeyword) (n : ℕ) (r : NamesRun × Answer) (reply : Reply) → WantsVerdict r.0.progress.mode → AlwaysAsksVerdict (fused_words texts) (of_array k) s n r reply
  array_for_verdict k zero r reply wants = tt
  array_for_verdict k (suc n) r reply wants =
      (step_for_verdict (run_way k s r) r.0.progress.mode r.0.progress.stage reply wants, λ next. array_for_verdict k n ((fused_words texts).turn (of_array k) s r reply) next wants)

pub fused_asks_no_units : (texts : Bool) → AsksNoUnits (fused_words texts)
fused_asks_no_units texts (of_bench m) s mode none = bench_for_less texts s m _ _ no_reply (basics_ask_no_units texts m s mode none)
fused_asks_no_units texts (of_array k) s mode none =
    array_for_less texts s k ((fused_words texts).most_turns (of_array k) s) ((fused_words texts).begin (of_array k) s mode) no_reply (λ e. none (sym (mode-kept mode) ∙ e))

pub fused_asks_verdicts : (texts : Bool) → EachAsksVerdicts (fused_words texts)
fused_asks_verdicts texts (of_bench m) s = bench_for_verdict texts s m _ _ no_reply (basics_ask_verdicts texts m s)
fused_asks_verdicts texts (of_array k) s =
    array_for_verdict texts s k ((fused_words texts).most_turns (of_array k) s) ((fused_words texts).begin (of_array k) s for_verdict) no_reply refl

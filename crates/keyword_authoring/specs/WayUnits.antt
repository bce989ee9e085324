-- In each mode other than evaluation, a run asks no child for its units.
use Rattle.std.proofs.Common.{Bool, None, Option, Some, refl, suc, sym, zero, ℕ, ◌+◌, ◌∙◌, ◌≡◌}
use Rattle.theory_definitions.specs.Instance.{Subject}
use Rattle.theory_definitions.specs.Keywords.{Answer, Question, Reply, for_all, for_first, for_units, for_verdict, no_reply}
use Rattle.theory_definitions.specs.Keywords as spec
use Rattle.schema_traits.specs.KeywordViews.{mode_of}
use Rattle.schema_traits.specs.UnitQuestions.{AlwaysAsksForLess, AsksForLess, AsksNoUnits}
use Rattle.schema_traits.specs.declared.keyword.Mode.{Mode}
use Rattle.schema_traits.specs.declared.keyword.Mode.TheVariants as mode
use Rattle.keyword_authoring.specs.declared.run.Stage.{Stage}
use Rattle.keyword_authoring.specs.declared.run.Stage.TheVariants.{Asked, Begun, Counted, Ended}
use Rattle.keyword_authoring.specs.declared.run.Progress.{Progress}
use Rattle.keyword_authoring.specs.Somes.{question_of, some_from}
use Rattle.keyword_authoring.specs.Tallies.{Tally, asked_in, says_yes, tallied, wants_units}
use Rattle.keyword_authoring.specs.Ways.{Way, asked, asks_match, branches, chosen, goes_on, judges, left_to_judge, mode_from, next_if, next_some, nth, passes_on, passes_some, step_at, tells}
use Rattle.keyword_authoring.specs.OwnWays.{own_words, spoken_ways}
use Rattle.keyword_authoring.specs.WayWords.{words_of}

-- a mode other than evaluation
abbrev pub WantsNone : Mode → Type 0
WantsNone mode' = ¬ (mode_of mode' ≡ for_units)

asked_for_less : (mode' : Mode) (o : Option Question) → WantsNone mode' → AsksForLess (asked mode' o)
asked_for_less mode' None none = tt
asked_for_less mode' (Some q) none = none

verdict_for_less : WantsNone mode.Verdict
verdict_for_less = λ e. let f : ⊥ = cc in f

-- a run that judges asks for verdicts then
judge_for_less : (t : Tally) (mode' : Mode) → WantsNone mode' → WantsNone (asked_in (wants_units t mode'))
judge_for_less t mode.Verdict none = verdict_for_less
judge_for_less t mode.First none = verdict_for_less
judge_for_less t mode.All none = verdict_for_less
judge_for_less t mode.Evaluate none = absurd (none refl)

pub step_for_less : (w : Way) (mode' : Mode) (stage : Stage) (r : Reply) → WantsNone mode' → AsksForLess (step_at w mode' stage r)
step_for_less (tells name ts) mode' stage r none = tt
step_for_less (passes_on qs) mode' Begun r none = asked_for_less mode' (nth 0 qs) none
step_for_less (passes_on qs) mode' (Asked i) r none = asked_for_less mode' (next_if (goes_on r) (nth (i + 1) qs)) none
step_for_less (passes_on qs) mode' (Counted i n) r none = tt
step_for_less (passes_on qs) mode' Ended r none = tt
step_for_less (passes_some os) mode' Begun r none = asked_for_less mode' (question_of (some_from 0 os)) none
step_for_less (passes_some os) mode' (Asked i) r none = asked_for_less mode' (question_of (next_some (goes_on r) (some_from (i + 1) os))) none
step_for_less (passes_some os) mode' (Counted i n) r none = tt
step_for_less (passes_some os) mode' Ended r none = tt
step_for_less (judges t qs) mode' Begun r none = asked_for_less (asked_in (wants_units t mode')) (nth 0 qs) (judge_for_less t mode' none)
step_for_less (judges t qs) mode' (Asked i) r none = tt
step_for_less (judges t qs) mode' (Counted i n) r none = asked_for_less (asked_in (wants_units t mode')) (left_to_judge t mode' (tallied t.enough r n) (nth (i + 1) qs)) (judge_for_less t mode' none)
step_for_less (judges t qs) mode' Ended r none = tt
step_for_less (branches q one other) mode' Begun r none = verdict_for_less
step_for_less (branches q one other) mode' (Asked zero) r none = asked_for_less mode' (chosen (says_yes r) one other) none
step_for_less (branches q one other) mode' (Asked (suc i)) r none = tt
step_for_less (branches q one other) mode' (Counted i n) r none = tt
step_for_less (branches q one other) mode' Ended r none = tt
step_for_less (asks_match name p text) mode' Begun r none = tt
step_for_less (asks_match name p text) mode' (Asked i) r none = tt
step_for_less (asks_match name p text) mode' (Counted i n) r none = tt
step_for_less (asks_match name p text) mode' Ended r none = tt

pub mode-kept : (mode' : spec.Mode) → mode_of (mode_from mode') ≡ mode'
mode-kept for_verdict = refl
mode-kept for_first = refl
mode-kept for_all = refl
mode-kept for_units = refl

module _ {M : Type 0} (way : Bool → M → Subject → Way) where
  -- each turn keeps the run's mode
  turns_for_less : (texts : Bool) (m : M) (s : Subject) (n : ℕ) (r : Progress × Answer) (reply : Reply) → WantsNone r.0.mode
      → AlwaysAsksForLess (words_of way texts) m s n r reply
  turns_for_less texts m s zero r reply none = tt
  turns_for_less texts m s (suc n) r reply none =
      (step_for_less (way texts m s) r.0.mode r.0.stage reply none, λ next. turns_for_less texts m s n ((words_of way texts).turn m s r reply) next none)

  -- keywords of any kind ask for no units in such a mode
  pub ways_ask_no_units : (texts : Bool) → AsksNoUnits (words_of way texts)
  ways_ask_no_units texts = λ m s mode' none.
      turns_for_less texts m s ((words_of way texts).most_turns m s) ((words_of way texts).begin m s mode') no_reply (λ e. none (sym (mode-kept mode') ∙ e))

-- the same for an author's keywords
pub own_ask_no_units : {M : Type 0} (way : M → Subject → Way) (texts : Bool) → AsksNoUnits (own_words way texts)
own_ask_no_units way = ways_ask_no_units (spoken_ways way)

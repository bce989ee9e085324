-- A run for the verdict asks for verdicts.
use Rattle.std.proofs.Common.{Bool, None, Option, Some, refl, suc, zero, ℕ, ◌+◌, ◌≡◌}
use Rattle.theory_definitions.specs.Instance.{Subject}
use Rattle.theory_definitions.specs.Keywords.{Answer, Question, Reply, for_verdict, no_reply}
use Rattle.theory_definitions.specs.Remembering.{AlwaysAsksVerdict, AsksVerdict, EachAsksVerdicts}
use Rattle.schema_traits.specs.KeywordViews.{mode_of}
use Rattle.schema_traits.specs.declared.keyword.Mode.{Mode}
use Rattle.schema_traits.specs.declared.keyword.Mode.TheVariants as mode
use Rattle.keyword_authoring.specs.declared.run.Stage.{Stage}
use Rattle.keyword_authoring.specs.declared.run.Stage.TheVariants.{Asked, Begun, Counted, Ended}
use Rattle.keyword_authoring.specs.declared.run.Progress.{Progress}
use Rattle.keyword_authoring.specs.Somes.{question_of, some_from}
use Rattle.keyword_authoring.specs.Tallies.{Tally, asked_in, says_yes, tallied, wants_units}
use Rattle.keyword_authoring.specs.Ways.{Way, asked, asks_match, branches, chosen, goes_on, judges, left_to_judge, next_if, next_some, nth, passes_on, passes_some, step_at, tells}
use Rattle.keyword_authoring.specs.OwnWays.{own_words, spoken_ways}
use Rattle.keyword_authoring.specs.WayWords.{words_of}

-- the mode of a run for the verdict
abbrev pub WantsVerdict : Mode → Type 0
WantsVerdict mode' = mode_of mode' ≡ for_verdict

asked_for_verdict : (mode' : Mode) (o : Option Question) → WantsVerdict mode' → AsksVerdict (asked mode' o)
asked_for_verdict mode' None wants = tt
asked_for_verdict mode' (Some q) wants = wants

-- a run that judges asks for units only in an evaluation
judge_for_verdict : (t : Tally) (mode' : Mode) → WantsVerdict mode' → WantsVerdict (asked_in (wants_units t mode'))
judge_for_verdict t mode.Verdict wants = refl
judge_for_verdict t mode.First wants = refl
judge_for_verdict t mode.All wants = refl
judge_for_verdict t mode.Evaluate wants = absurd (cc wants)

pub step_for_verdict : (w : Way) (mode' : Mode) (stage : Stage) (r : Reply) → WantsVerdict mode' → AsksVerdict (step_at w mode' stage r)
step_for_verdict (tells name ts) mode' stage r wants = tt
step_for_verdict (passes_on qs) mode' Begun r wants = asked_for_verdict mode' (nth 0 qs) wants
step_for_verdict (passes_on qs) mode' (Asked i) r wants = asked_for_verdict mode' (next_if (goes_on r) (nth (i + 1) qs)) wants
step_for_verdict (passes_on qs) mode' (Counted i n) r wants = tt
step_for_verdict (passes_on qs) mode' Ended r wants = tt
step_for_verdict (passes_some os) mode' Begun r wants = asked_for_verdict mode' (question_of (some_from 0 os)) wants
step_for_verdict (passes_some os) mode' (Asked i) r wants = asked_for_verdict mode' (question_of (next_some (goes_on r) (some_from (i + 1) os))) wants
step_for_verdict (passes_some os) mode' (Counted i n) r wants = tt
step_for_verdict (passes_some os) mode' Ended r wants = tt
step_for_verdict (judges t qs) mode' Begun r wants = asked_for_verdict (asked_in (wants_units t mode')) (nth 0 qs) (judge_for_verdict t mode' wants)
step_for_verdict (judges t qs) mode' (Asked i) r wants = tt
step_for_verdict (judges t qs) mode' (Counted i n) r wants = asked_for_verdict (asked_in (wants_units t mode')) (left_to_judge t mode' (tallied t.enough r n) (nth (i + 1) qs)) (judge_for_verdict t mode' wants)
step_for_verdict (judges t qs) mode' Ended r wants = tt
step_for_verdict (branches q one other) mode' Begun r wants = refl
step_for_verdict (branches q one other) mode' (Asked zero) r wants = asked_for_verdict mode' (chosen (says_yes r) one other) wants
step_for_verdict (branches q one other) mode' (Asked (suc i)) r wants = tt
step_for_verdict (branches q one other) mode' (Counted i n) r wants = tt
step_for_verdict (branches q one other) mode' Ended r wants = tt
step_for_verdict (asks_match name p text) mode' Begun r wants = tt
step_for_verdict (asks_match name p text) mode' (Asked i) r wants = tt
step_for_verdict (asks_match name p text) mode' (Counted i n) r wants = tt
step_for_verdict (asks_match name p text) mode' Ended r wants = tt

module _ {M : Type 0} (way : Bool → M → Subject → Way) where
  -- each turn keeps the run's mode
  turns_for_verdict : (texts : Bool) (m : M) (s : Subject) (n : ℕ) (r : Progress × Answer) (reply : Reply) → WantsVerdict r.0.mode
      → AlwaysAsksVerdict (words_of way texts) m s n r reply
  turns_for_verdict texts m s zero r reply wants = tt
  turns_for_verdict texts m s (suc n) r reply wants =
      (step_for_verdict (way texts m s) r.0.mode r.0.stage reply wants, λ next. turns_for_verdict texts m s n ((words_of way texts).turn m s r reply) next wants)

  -- keywords of any kind ask for verdicts in such a run
  pub ways_ask_verdicts : (texts : Bool) → EachAsksVerdicts (words_of way texts)
  ways_ask_verdicts texts = λ m s. turns_for_verdict texts m s ((words_of way texts).most_turns m s) ((words_of way texts).begin m s for_verdict) no_reply refl

-- the same for an author's keywords
pub own_ask_verdicts : {M : Type 0} (way : M → Subject → Way) (texts : Bool) → EachAsksVerdicts (own_words way texts)
own_ask_verdicts way = ways_ask_verdicts (spoken_ways way)

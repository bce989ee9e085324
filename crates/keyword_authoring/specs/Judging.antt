-- A turn of a run that judges, as the code takes it. Its questions are numbered.
use Rattle.std.specs.Prelude.{Bool, List, None, Option, Some, not, ℕ, ◌+◌, ◌≡◌}
use Rattle.theory_definitions.specs.Keywords.{Answer, Question, Reply, Turn, ask, done}
use Rattle.schema_traits.specs.KeywordViews.{answer_of, mode_of, reply_of}
use Rattle.schema_traits.specs.declared.keyword.Answer.{Answer as AnswerOfCall}
use Rattle.schema_traits.specs.declared.keyword.Mode.{Mode}
use Rattle.schema_traits.specs.declared.keyword.Reply.{Reply as ReplyOfCall}
use Rattle.keyword_authoring.specs.declared.judging.Judge.{Judge}
use Rattle.keyword_authoring.specs.declared.judging.Judging.{Judging}
use Rattle.keyword_authoring.specs.declared.judging.Judging.TheVariants.{Asks, Judged, Over}
use Rattle.keyword_authoring.specs.declared.run.Progress.{Progress}
use Rattle.keyword_authoring.specs.declared.run.Stage.{Stage}
use Rattle.keyword_authoring.specs.declared.run.Stage.TheVariants.{Asked, Begun, Counted, Ended}
use Rattle.keyword_authoring.specs.Items.{child_here, each_from}
use Rattle.keyword_authoring.specs.Tallies.{Tally, asked_in, says_yes, with_child}
use Rattle.keyword_authoring.specs.Ways.{Way, answer_after, asked, counted_at, judged_at, judges, next_if, noted, nth, stage_after, step_at}
use Rattle.keyword_authoring.specs.Asking.{nth_at}

-- the step that the turn takes
abbrev pub judging_turn : (ℕ → Question) → Judging → Turn
judging_turn f (Asks i m) = ask (f i) (mode_of m)
judging_turn f (Judged n) = done
judging_turn f Over = done

-- the answer after the turn, by the answer before it
abbrev pub judging_answer : Tally → Mode → Answer → Judging → Answer
judging_answer t m a (Asks i n) = a
judging_answer t m a (Judged n) = noted m t.name a (t.told n)
judging_answer t m a Over = a

-- the stage of a run that asks the question at a position, with this many accepted so far
abbrev pub counted_of : List Question → ℕ → Option ℕ → Stage
counted_of qs n None = Ended
counted_of qs n (Some i) = counted_at i n (nth i qs)

-- an answer with what a child returned, if the run counts
abbrev pub kept_at : Stage → Answer → Reply → Answer
kept_at Begun a r = a
kept_at (Asked i) a r = a
kept_at (Counted i n) a r = with_child a r
kept_at Ended a r = a

-- ---- what a turn does, for each tally that has the judge's numbers

module _ (judge : Judge) (f : ℕ → Question) where
  abbrev pub ForTallies : (Tally → Type 0) → Type 0
  ForTallies Holds = (t : Tally) → t.enough ≡ judge.enough → t.shows ≡ judge.shows → Holds t

  -- the kind of a keyword that judges by the answers to the judge's questions
  abbrev pub tallied_way : Tally → Way
  tallied_way t = judges t (each_from f 0 judge.count)

  -- the stage of the run after the turn
  abbrev pub JudgesStage : Progress → Reply → Progress → Type 0
  JudgesStage run reply run' = ForTallies (λ t. run' ≡ record run { stage = stage_after (tallied_way t) run.mode run.stage reply })

  -- the step that the turn takes
  abbrev pub JudgesStep : Progress → Reply → Judging → Type 0
  JudgesStep run reply judging = ForTallies (λ t. step_at (tallied_way t) run.mode run.stage reply ≡ judging_turn f judging)

  -- the answer after the turn, by the one that keeps what a child returned
  abbrev pub JudgesAnswer : Progress → Reply → Answer → Judging → Answer → Type 0
  JudgesAnswer run reply a judging kept = ForTallies (λ t. answer_after (tallied_way t) run.mode run.stage a reply ≡ judging_answer t run.mode kept judging)

  -- the same, by the answers before and after the call
  abbrev pub JudgesIn : Bool → Progress → ReplyOfCall → AnswerOfCall → Judging → AnswerOfCall → Type 0
  JudgesIn texts run reply old judging new = JudgesAnswer run (reply_of texts reply) (answer_of texts old) judging (answer_of texts new)

-- ---- the same by a call, whether texts are covered or not: anywhere, whatever the questions are,
-- and here, with the children at the keyword's own place

abbrev pub JudgesStageAnywhere : Judge → Progress → ReplyOfCall → Progress → Type 0
JudgesStageAnywhere judge run reply run' = (texts : Bool) (f : ℕ → Question) → JudgesStage judge f run (reply_of texts reply) run'

abbrev pub JudgesStepAnywhere : Judge → Progress → ReplyOfCall → Judging → Type 0
JudgesStepAnywhere judge run reply judging = (texts : Bool) (f : ℕ → Question) → JudgesStep judge f run (reply_of texts reply) judging

abbrev pub JudgesAnywhere : Judge → Progress → ReplyOfCall → AnswerOfCall → AnswerOfCall → Judging → Type 0
JudgesAnywhere judge run reply old new judging = (texts : Bool) (f : ℕ → Question) → JudgesIn judge f texts run reply old judging new

abbrev pub JudgesStageHere : Judge → Progress → ReplyOfCall → Progress → Type 0
JudgesStageHere judge run reply run' = (texts : Bool) → JudgesStage judge child_here run (reply_of texts reply) run'

abbrev pub JudgesStepHere : Judge → Progress → ReplyOfCall → Judging → Type 0
JudgesStepHere judge run reply judging = (texts : Bool) → JudgesStep judge child_here run (reply_of texts reply) judging

abbrev pub JudgesHere : Judge → Progress → ReplyOfCall → AnswerOfCall → AnswerOfCall → Judging → Type 0
JudgesHere judge run reply old new judging = (texts : Bool) → JudgesIn judge child_here texts run reply old judging new

-- ---- how the code counts a reply that accepts or not, whatever the questions are

abbrev pub CountsStage : Judge → Bool → Progress → Progress → Type 0
CountsStage judge accepts run run' = (f : ℕ → Question) (r : Reply) → accepts ≡ says_yes r → JudgesStage judge f run r run'

abbrev pub CountsStep : Judge → Bool → Progress → Judging → Type 0
CountsStep judge accepts run judging = (f : ℕ → Question) (r : Reply) → accepts ≡ says_yes r → JudgesStep judge f run r judging

abbrev pub CountsAnswer : Judge → Bool → Progress → Judging → Type 0
CountsAnswer judge accepts run judging = (f : ℕ → Question) (a : Answer) (r : Reply) → accepts ≡ says_yes r
    → JudgesAnswer judge f run r a judging (kept_at run.stage a r)

-- ---- how it asks the question at a position of this many, whatever the questions are

-- the stage of the run
abbrev pub StandsAtPlace : ℕ → ℕ → Option ℕ → Progress → Progress → Type 0
StandsAtPlace count accepted place run run' = (f : ℕ → Question) → run' ≡ record run { stage = counted_of (each_from f 0 count) accepted place }

-- the step
abbrev pub AsksAtPlace : ℕ → Option ℕ → Bool → Judging → Type 0
AsksAtPlace count place units judging = (f : ℕ → Question) → judging_turn f judging ≡ asked (asked_in units) (nth_at (each_from f 0 count) place)

-- the answer
abbrev pub AnswersAtPlace : ℕ → ℕ → Option ℕ → Judging → Type 0
AnswersAtPlace count accepted place judging = (f : ℕ → Question) (t : Tally) (m : Mode) (a : Answer) →
    judging_answer t m a judging ≡ judged_at t m accepted a (nth_at (each_from f 0 count) place)

-- the position has the next question after the last one, unless that settled the verdict
abbrev pub IsPlaceAfter : ℕ → ℕ → Bool → Option ℕ → Type 0
IsPlaceAfter last count settled place = (f : ℕ → Question) → nth_at (each_from f 0 count) place ≡ next_if (not settled) (nth (last + 1) (each_from f 0 count))

-- a run that asks it is at the right stage, however many were accepted
abbrev pub CountsPlaceAfter : ℕ → ℕ → Bool → Option ℕ → Type 0
CountsPlaceAfter last count settled place = (f : ℕ → Question) (n : ℕ) →
    counted_of (each_from f 0 count) n place ≡ counted_at (last + 1) n (next_if (not settled) (nth (last + 1) (each_from f 0 count)))

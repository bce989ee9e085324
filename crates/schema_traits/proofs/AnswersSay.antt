-- The verdict by the answers to questions, starting with the first; and that a keyword's verdict is
-- the one by the answers to its questions.
use Rattle.std.proofs.Common.{◌≡◌, ◌∙◌, ◌||◌, ◌&&◌, not, Bool, true, false, List, [], ◌∷◌, refl, sym, ap, true≢false}
use Rattle.std.proofs.Math.Bool.{beq}
use Rattle.std.specs.Prelude.{IfSome, None, Option, Some, is_some, option_and_then}
use Rattle.std.specs.List.{list_all, list_any}
use Rattle.theory_definitions.specs.Instance.{Subject, after_step, subject_from}
use Rattle.theory_definitions.specs.Keywords.{Keywords, Question}
use Rattle.theory_definitions.specs.Laws.{IsPresent, steps_below}
use Rattle.schema_reports.specs.InstanceViews.{step_of, subject_of}
use Rattle.schema_reports.specs.declared.instance.Instance.{Instance}
use Rattle.schema_reports.specs.declared.instance.InstanceStep.{InstanceStep}
use Rattle.schema_traits.specs.AskedAtOnce.{HoldsAsTold, asked_holds, tells_at_once}
use Rattle.schema_traits.specs.KeywordViews.{Tells}
use Rattle.schema_traits.specs.declared.asking.Asking.{Asking}
use Rattle.schema_traits.specs.declared.asking.Asking.TheVariants as asking
use Rattle.schema_traits.specs.Questions.{SaysByQuestions, StandsThere, answers_say, asks_for_all, below_in, puts_questions, question_in, questions_of}
use Rattle.schema_traits.specs.declared.asked.AskedQuestion.{AskedQuestion}
use Rattle.schema_traits.proofs.AskedAtOnceBy.{asked_all, asked_one}

module _ (accepts : Question → Bool) (q : Question) (rest : List Question) where
  pub first_as_it_has_to : (all : Bool) → accepts q ≡ all → answers_say all accepts (q ∷ rest) ≡ answers_say all accepts rest
  first_as_it_has_to true is = ap (λ b. b && list_all accepts rest) is
  first_as_it_has_to false is = ap (λ b. b || list_any accepts rest) is

  pub first_otherwise : (all : Bool) → accepts q ≡ not all → answers_say all accepts (q ∷ rest) ≡ not all
  first_otherwise true is = ap (λ b. b && list_all accepts rest) is
  first_otherwise false is = ap (λ b. b || list_any accepts rest) is

pub none_say : (all : Bool) (accepts : Question → Bool) → answers_say all accepts [] ≡ all
none_say true accepts = refl
none_say false accepts = refl

-- by a test of two truth values
pub otherwise : (a b : Bool) → not (beq a b) ≡ true → a ≡ not b
otherwise true true other = absurd (true≢false (sym other))
otherwise true false other = refl
otherwise false true other = refl
otherwise false false other = absurd (true≢false (sym other))

pub likewise : (a b : Bool) → not (beq a b) ≡ false → a ≡ b
likewise true true is = refl
likewise true false is = absurd (true≢false is)
likewise false true is = absurd (true≢false is)
likewise false false is = refl

-- a question is asked at a place that exists
pub present_there : (s : Subject) (a : AskedQuestion) → StandsThere s a → IsPresent s (steps_below (question_in a).below)
present_there s a = go a.below
  where
    go : (b : Option (Instance × InstanceStep)) → IfSome b (λ r. after_step (step_of r.1) s ≡ Some (subject_of r.0)) → IsPresent s (steps_below (below_in b))
    go None there = refl
    go (Some r) there = ap (λ o. is_some (option_and_then (subject_from []) o)) there

-- an asking that has questions is declared up front
pub puts_tell : (a : Asking) → puts_questions a ≡ true → tells_at_once a ≡ true
puts_tell asking.ByTurns puts = absurd (true≢false (sym puts))
puts_tell a puts = refl

-- if an asking has questions, then its verdict is the one by their answers
pub says_by_questions : {K R : Type 0} (words : Bool → Keywords K R) (is_whole : K → Bool) (s : Subject) (m : K) (a : Asking) → ((texts : Bool) → Tells texts (is_whole m) s → HoldsAsTold (words texts) m s a) → puts_questions a ≡ true
    → (all : Bool) → all ≡ asks_for_all a → (left : List Question) → left ≡ questions_of a s → SaysByQuestions words is_whole s m all left
says_by_questions words is_whole s m a asks puts all is left same texts tells matching accepts =
    (asks texts tells).says (puts_tell a puts) matching accepts ∙ by_answers all (sym is) ∙ ap (answers_say all accepts) (sym same)
  where
    by_answers : (b : Bool) → asks_for_all a ≡ b → asked_holds a s matching accepts ≡ answers_say b accepts (questions_of a s)
    by_answers true is = asked_all a s matching accepts puts is
    by_answers false is = asked_one a s matching accepts is

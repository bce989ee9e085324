-- The questions that a keyword asks up front, one at a time, and where each of them is asked.
use Rattle.std.specs.List.{list_all, list_any}
use Rattle.std.specs.Prelude.{Bool, IfSome, List, MatchOption, None, Option, Some, [], cond, false, is_some, length, map, min, string_bytes, true, ℕ, ◌+◌, ◌-◌, ◌∷◌, ◌≡◌}
use Rattle.theory_definitions.specs.Instance.{Subject, Text, after_step, to_member}
use Rattle.theory_definitions.specs.Keywords.{Below, Keywords, Question, down, here}
use Rattle.theory_definitions.specs.Matching.{Matching}
use Rattle.schema_reports.specs.InstanceViews.{step_of, subject_of}
use Rattle.schema_reports.specs.declared.instance.Instance.{Instance}
use Rattle.schema_reports.specs.declared.instance.InstanceStep.{InstanceStep}
use Rattle.schema_traits.specs.AskedAtOnce.{child_at, child_below, child_here, first_at_name, numbers_from}
use Rattle.schema_traits.specs.KeywordViews.{Tells}
use Rattle.schema_traits.specs.declared.asking.Asking.{Asking}
use Rattle.schema_traits.specs.declared.asking.Asking.TheVariants as asking
use Rattle.schema_traits.specs.declared.asked.AskedQuestion.{AskedQuestion}

-- for each name that is a member of the subject, the question to its child at that member; the
-- first name is that of child i
abbrev pub at_names : Subject → ℕ → List Text → List Question
at_names s i [] = []
at_names s i (k ∷ ks) = cond (is_some (after_step (to_member k) s)) (child_below i k ∷ at_names s (i + 1) ks) (at_names s (i + 1) ks)

-- the questions of an asking about a subject, in order
abbrev pub questions_of : Asking → Subject → List Question
questions_of asking.ByTurns s = []
questions_of (asking.Each n) s = map child_here (numbers_from 0 n)
questions_of (asking.One n) s = map child_here (numbers_from 0 n)
questions_of (asking.Items before items) s = map (child_at 0) (numbers_from before (length items.now - before))
questions_of (asking.Listed n items) s = map (λ k. child_at k k) (numbers_from 0 (min n (length items.now)))
questions_of (asking.Members names ms) s = at_names s 0 names.now
questions_of (asking.Names ms) s = map (λ e. first_at_name (string_bytes e.0)) ms.now.entries
questions_of (asking.Match pattern text) s = []

-- whether an asking has questions: neither turns nor a match decide the verdict
abbrev pub puts_questions : Asking → Bool
puts_questions asking.ByTurns = false
puts_questions (asking.Match pattern text) = false
puts_questions a = true

-- whether all answers must accept; otherwise one must
abbrev pub asks_for_all : Asking → Bool
asks_for_all (asking.One n) = false
asks_for_all a = true

-- where a question is asked: here, or one step down
abbrev pub below_in : Option (Instance × InstanceStep) → Below
below_in None = here
below_in (Some r) = down (step_of r.1)

-- the question as the definitions have it
abbrev pub question_in : AskedQuestion → Question
question_in a = record { child = a.child; below = below_in a.below }

-- if a question is asked one step below, then that step leads there from the subject
abbrev pub StandsThere : Subject → AskedQuestion → Type 0
StandsThere s a = IfSome a.below (λ r. after_step (step_of r.1) s ≡ Some (subject_of r.0))

-- the subject that the questions are about, and the questions that are left
pub record QuestionsLeft : Type 0 where
  pub subject : Subject
  pub left : List Question

-- the first of the old questions is asked and the others are left, or there was none and none is
-- left
abbrev pub AsksFirst : Subject → List Question → Option AskedQuestion → List Question → Type 0
AsksFirst s old asked new = MatchOption asked ((old ≡ []) × (new ≡ [])) (λ a. (old ≡ question_in a ∷ new) × StandsThere s a)

-- the first of the old questions is asked and the others are left, or there was none
abbrev pub AsksNext : List Question → Option AskedQuestion → List Question → Type 0
AsksNext old asked new = MatchOption asked (old ≡ []) (λ a. old ≡ question_in a ∷ new)

-- the verdict by the answers to these questions: all of them accept, or one of them does
abbrev pub answers_say : Bool → (Question → Bool) → List Question → Bool
answers_say true accepts qs = list_all accepts qs
answers_say false accepts qs = list_any accepts qs

-- if texts are covered at all, the keyword's verdict on the subject is the one by the answers to
-- these questions
abbrev pub SaysByQuestions : {K R : Type 0} → (Bool → Keywords K R) → (K → Bool) → Subject → K → Bool → List Question → Type 0
SaysByQuestions words is_whole s m all qs = (texts : Bool) → Tells texts (is_whole m) s → (matching : Matching) (accepts : Question → Bool)
    → (words texts).holds m s matching accepts ≡ answers_say all accepts qs

-- What a turn of a keyword about arrays finds, apart from the texts of errors.
use Rattle.std.specs.Prelude.{Bool, List, Result, map, true, ◌≡◌}
use Rattle.theory_definitions.specs.Keywords.{for_first}
use Rattle.theory_definitions.specs.Laws.{first_fault}
use Rattle.schema_reports.specs.InstanceViews.{subject_of}
use Rattle.schema_reports.specs.declared.instance.Instance.{Instance}
use Rattle.schema_traits.specs.KeywordViews.{answer_of, fault_of, reply_of, with_errors, with_gives}
use Rattle.schema_traits.specs.declared.keyword.Answer.{Answer}
use Rattle.schema_traits.specs.declared.keyword.Fault.{Fault}
use Rattle.schema_traits.specs.declared.keyword.Mode.{Mode}
use Rattle.schema_traits.specs.declared.keyword.Reply.{Reply}
use Rattle.schema_traits.specs.declared.keyword.Step.{Step}
use Rattle.keyword_authoring.specs.AnswerWords.{BecomesTold, IfTold}
use Rattle.keyword_authoring.specs.TurnWords.{Steps}
use Rattle.keyword_authoring.specs.Ways.{at_first, passes_on, way_turn}
use Rattle.keyword_authoring.specs.declared.run.Progress.{Progress}
use Rattle.example_fused_keywords.specs.Openings.{errors, first_gives, opening, run_questions}
use Rattle.example_fused_keywords.specs.declared.array.ArrayKeyword.{ArrayKeyword}

-- the answer has the first of the faults, if there is one
abbrev pub HasFirstOf : List Fault → Answer → Type 0
HasFirstOf faults answer = (texts : Bool) → answer_of texts answer ≡ with_errors for_first (first_fault (map (fault_of texts) faults))

-- these are the errors of the checks
abbrev pub AreErrors : ArrayKeyword → Instance → List Fault → Type 0
AreErrors k instance faults = IfTold true instance (λ texts s. map (fault_of texts) faults ≡ errors texts k s)

-- the answer has what the checks contribute to an evaluation
abbrev pub GivesFirst : ArrayKeyword → Instance → Answer → Type 0
GivesFirst k instance answer = IfTold true instance (λ texts s. answer_of texts answer ≡ with_gives (first_gives texts k s))

-- the answer is that of a run in this mode after the checks
abbrev pub IsOpening : Mode → ArrayKeyword → Instance → Answer → Type 0
IsOpening mode k instance answer = IfTold true instance (λ texts s. answer_of texts answer ≡ opening texts mode k s)

-- the first turn puts what the checks find into the answer
abbrev pub Opens : Progress → ArrayKeyword → Instance → Answer → Answer → Type 0
Opens run k instance old new = BecomesTold true instance (λ texts s a. at_first run.stage (opening texts run.mode k s) a) old new

-- the next run and answer: the first turn adds what the checks find, and later turns evaluate the
-- child at one item after the other
abbrev pub TurnsArray : ArrayKeyword → Instance → Progress → Answer → Reply → Progress → Answer → Type 0
TurnsArray k instance run old reply run' new = IfTold true instance (λ texts s. way_turn (passes_on (run_questions run.mode k s))
    (run, at_first run.stage (opening texts run.mode k s) (answer_of texts old)) (reply_of texts reply) ≡ (run', answer_of texts new))

-- the step: it evaluates the child at the next item, or ends the run
abbrev pub StepsArray : {E : Type 0} → ArrayKeyword → Instance → Progress → Answer → Reply → Result Step E → Type 0
StepsArray k instance run old reply result = Steps (passes_on (run_questions run.mode k (subject_of instance))) run old reply result

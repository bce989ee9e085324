-- What is reported of wants that an instance does not meet.
use Rattle.std.specs.Prelude.{Bool, List, OnOk, Option, Result, String, [], codes, if◌then◌else◌, map, string_bytes, ◌≡◌}
use Rattle.std.specs.declared.alloc.Global.{Global}
use Rattle.theory_definitions.specs.Instance.{Subject, Text}
use Rattle.theory_definitions.specs.Keywords.{Answer, Question}
use Rattle.schema_reports.specs.InstanceViews.{subject_of}
use Rattle.schema_reports.specs.ReportViews.{spoken}
use Rattle.schema_reports.specs.declared.instance.Instance.{Instance}
use Rattle.schema_traits.specs.declared.keyword.Answer as code
use Rattle.schema_traits.specs.declared.keyword.Mode.{Mode}
use Rattle.keyword_authoring.specs.AnswerWords.{Becomes}
use Rattle.keyword_authoring.specs.Ways.{at_first, noted}
use Rattle.keyword_authoring.specs.declared.run.Progress.{Progress}
use Rattle.standard_applicators.specs.Courses.{ends_run, left_to_ask}
use Rattle.standard_applicators.specs.Dependents.{dependents_from}
use Rattle.standard_applicators.specs.Wanting.{missing_texts}

-- the texts of the errors
abbrev pub unmet_texts : List (Text × Text) → Instance → Bool → List Text
unmet_texts wants instance texts = map (spoken texts) (missing_texts wants (subject_of instance))

-- the answer in which these errors are reported
abbrev pub with_unmet : List (Text × Text) → Instance → Mode → Bool → Answer → Answer
with_unmet wants instance mode texts a = noted mode (codes "dependencies") a (unmet_texts wants instance texts)

-- if the result is `Ok`, the first turn of a run reports these errors
abbrev pub TellsUnmet : {A E : Type 0} → List (Text × Text) → Instance → Progress → code.Answer → code.Answer → Result A E → Type 0
TellsUnmet wants instance run old new result = OnOk result (Becomes old (λ texts a. at_first run.stage (with_unmet wants instance run.mode texts a) a) new)

-- whether these errors end the run, so that nothing is asked
abbrev pub EndsByUnmet : List (Text × Text) → Instance → Progress → Bool → Type 0
EndsByUnmet wants instance run ends = (texts : Bool) (os : List (Option Question))
    → left_to_ask run.stage (ends_run run.mode (unmet_texts wants instance texts)) os ≡ (if ends then [] else os)

-- the names whose schemas are asked, which are none if the run ends
abbrev pub AskUnless : Bool → List (String Global) → List (String Global) → Type 0
AskUnless ends names asked = (s : Subject) → dependents_from 0 (map string_bytes asked) s ≡ (if ends then [] else dependents_from 0 (map string_bytes names) s)

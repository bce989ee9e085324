-- The errors that a keyword reports of its own, by its shape. Their texts are claimed only for
-- instances without a fraction.
use Rattle.std.specs.List.{list_any}
use Rattle.std.specs.Prelude.{Bool, List, OnOk, Result, String, codes, map, string_bytes, true, ◌++◌, ◌≡◌}
use Rattle.std.specs.declared.alloc.Global.{Global}
use Rattle.theory_definitions.specs.Instance.{Text}
use Rattle.schema_reports.specs.InstanceViews.{subject_of}
use Rattle.schema_reports.specs.ReportViews.{spoken}
use Rattle.schema_reports.specs.declared.instance.Instance.{Instance}
use Rattle.schema_traits.specs.declared.keyword.Answer.{Answer}
use Rattle.schema_traits.specs.declared.keyword.Mode.{Mode}
use Rattle.keyword_authoring.specs.AnswerWords.{Becomes, BecomesTold}
use Rattle.keyword_authoring.specs.Ways.{at_first, noted, told_at_once, unless}
use Rattle.keyword_authoring.specs.declared.run.Progress.{Progress}
use Rattle.standard_basics.specs.BasicShape.{BasicShape}
use Rattle.standard_basics.specs.Words.{lacks, missing, pattern_text, required_text, way}

-- If the result is `Ok`, the answer gains the errors that the keyword reports without asking anything.
abbrev pub TellsOwn : {A E : Type 0} → BasicShape → Instance → Mode → Answer → Answer → Result A E → Type 0
TellsOwn m instance mode old new result = OnOk result (BecomesTold true instance (λ texts s a. told_at_once (way texts m s) mode a) old new)

-- The first turn of a run reports those errors.
abbrev pub TellsFirst : {A E : Type 0} → BasicShape → Instance → Progress → Answer → Answer → Result A E → Type 0
TellsFirst m instance run old new result =
    OnOk result (BecomesTold true instance (λ texts s a. at_first run.stage (told_at_once (way texts m s) run.mode a) a) old new)

-- An error is reported for each name that the instance lacks, in order, even if the instance holds
-- a fraction.
abbrev pub TellsMissing : {A E : Type 0} → List Text → Instance → Mode → Answer → Answer → Result A E → Type 0
TellsMissing names instance mode old new result =
    OnOk result (Becomes old (λ texts a. noted mode (codes "required") a (map (λ k. spoken texts (required_text k)) (missing names (subject_of instance)))) new)

-- An error is reported if the pattern does not match.
abbrev pub TellsMatch : {A E : Type 0} → Bool → Text → Instance → Mode → Answer → Answer → Result A E → Type 0
TellsMatch matches pattern instance mode old new result =
    OnOk result (BecomesTold true instance (λ texts s a. noted mode (codes "pattern") a (unless matches (spoken texts (pattern_text pattern s)))) old new)

-- Whether the instance is an object that lacks one of these members.
abbrev pub lacks_one : List (String Global) → Instance → Bool
lacks_one names instance = list_any (λ k. lacks (string_bytes k) (subject_of instance)) names

-- If the result is `Ok`, this was appended to the text.
abbrev pub Adds : {A E : Type 0} → Result A E → String Global → String Global → Text → Type 0
Adds result old new added = OnOk result (string_bytes new ≡ string_bytes old ++ added)

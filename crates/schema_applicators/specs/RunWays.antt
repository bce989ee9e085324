-- How the runs of the keywords judge an instance, and what they report of it.
use Rattle.std.specs.Prelude.{Bool, IfOk, OnOk, Result, String, false, not, ℕ, ◌≡◌}
use Rattle.std.specs.declared.alloc.Global.{Global}
use Rattle.serde_json.specs.View.{view}
use Rattle.serde_json.specs.Written.{compact_text, has_float}
use Rattle.serde_json.specs.declared.value.Value.{Value}
use Rattle.theory_definitions.specs.Instance.{Subject}
use Rattle.schema_reports.specs.declared.instance.Instance.{Instance}
use Rattle.schema_traits.specs.declared.keyword.Answer.{Answer}
use Rattle.schema_traits.specs.declared.keyword.Mode.{Mode}
use Rattle.keyword_authoring.specs.AnswerWords.{BecomesTold}
use Rattle.keyword_authoring.specs.Items.{child_here, each_from}
use Rattle.keyword_authoring.specs.Tallies.{Tally}
use Rattle.keyword_authoring.specs.TextWords.{ShowsText}
use Rattle.keyword_authoring.specs.Ways.{Way, judges, noted, passes_on}
use Rattle.schema_applicators.specs.Words.{any_of_tally, not_tally, not_text, one_of_tally}

-- asks each of this number of schemas
abbrev pub asks_each : ℕ → Way
asks_each count = passes_on (each_from child_here 0 count)

-- judges by the answers of this number of schemas
abbrev pub judges_any_of : ℕ → Bool → Subject → Way
judges_any_of count texts s = judges (any_of_tally texts s) (each_from child_here 0 count)

abbrev pub judges_one_of : ℕ → Bool → Subject → Way
judges_one_of count texts s = judges (one_of_tally texts s) (each_from child_here 0 count)

-- whether this schema contains no fraction
abbrev pub is_whole : Value → Bool
is_whole schema = not (has_float (view schema))

-- judges by the answer of this schema
abbrev pub tally_of_not : Value → Bool → Subject → Tally
tally_of_not schema texts s = not_tally texts (compact_text (view schema)) s

abbrev pub judges_not : Value → Bool → Subject → Way
judges_not schema texts s = judges (tally_of_not schema texts s) (each_from child_here 0 1)

-- If the result is `Ok`, the answer gains the errors that a tally reports if this number of schemas
-- accept. Their texts are claimed only if neither the keyword nor the instance contains a fraction.
abbrev pub TellsTally : {A E : Type 0} → Bool → (Bool → Subject → Tally) → ℕ → Instance → Mode → Answer → Answer → Result A E → Type 0
TellsTally whole tally accepted instance mode old new result =
    OnOk result (BecomesTold whole instance (λ texts s a. noted mode (tally texts s).name a ((tally texts s).told accepted)) old new)

-- If the result is `Ok` and neither the schema nor the instance contains a fraction, it is the text
-- of the error of `not`.
abbrev pub ShowsNot : {E : Type 0} → Value → Instance → Result (String Global) E → Type 0
ShowsNot schema instance result = IfOk result (λ text. has_float (view schema) ≡ false → ShowsText instance (not_text (compact_text (view schema))) text)

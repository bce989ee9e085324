-- How a text is made.
use Rattle.std.specs.Prelude.{String, string_bytes, ◌++◌, ◌≡◌}
use Rattle.std.specs.declared.alloc.Global.{Global}
use Rattle.theory_definitions.specs.Instance.{Subject, Text}
use Rattle.schema_reports.specs.declared.instance.Instance.{Instance}
use Rattle.keyword_authoring.specs.AnswerWords.{IfNoFraction}

-- this is appended to the text
abbrev pub Adds : Text → String Global → String Global → Type 0
Adds added old new = string_bytes new ≡ string_bytes old ++ added

-- the text is the one for the instance, if that holds no fraction
abbrev pub ShowsText : Instance → (Subject → Text) → String Global → Type 0
ShowsText instance shown text = IfNoFraction instance (λ s. string_bytes text ≡ shown s)

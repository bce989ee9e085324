-- Texts that show values of the schema. The digits of fractions are not claimed.
use Rattle.std.specs.Prelude.{Bool, IfOk, Result, String, false, ◌≡◌}
use Rattle.std.specs.declared.alloc.Global.{Global}
use Rattle.theory_definitions.specs.Instance.{Subject, Text}
use Rattle.schema_reports.specs.declared.instance.Instance.{Instance}
use Rattle.keyword_authoring.specs.TextWords.{ShowsText}

-- if the result is `Ok`, then without a fraction it is this text for the instance
abbrev pub ShowsUnless : {E : Type 0} → Bool → Instance → (Subject → Text) → Result (String Global) E → Type 0
ShowsUnless fraction instance shown result = IfOk result (λ text. fraction ≡ false → ShowsText instance shown text)

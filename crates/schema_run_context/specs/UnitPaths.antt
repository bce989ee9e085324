-- What a text adds to another one.
use Rattle.std.specs.Prelude.{◌∷◌, ◌++◌, ◌≡◌, Bool, IfOk, Result, if◌then◌else◌}
use Rattle.theory_definitions.specs.Instance.{Text}
use Rattle.schema_run_context.specs.declared.unit_paths.Added.{Added}
use Rattle.schema_run_context.specs.declared.unit_paths.UnitTexts.{UnitTexts}

-- an escaped text, with or without a `/` before it
abbrev pub added_text : Added → Text
added_text a = if a.slash then 47 ∷ a.text.now else a.text.now

-- a text is another one with the addition
abbrev pub IsAfter : Text → Added → Text → Type 0
IsAfter before added text = text ≡ before ++ added_text added

-- if a result is a text, then it is the other one with the addition
abbrev pub GivesAfter : {E : Type 0} → Text → Added → Result Text E → Type 0
GivesAfter before added result = IfOk result (λ text. IsAfter before added text)

-- if a result has the texts of a unit, then this is its path; this is its location in the schema; and
-- this says whether it lies under a reference
abbrev pub HasPath : {E : Type 0} → Result UnitTexts E → Text → Type 0
HasPath result path = IfOk result (λ t. t.path ≡ path)

abbrev pub HasSchema : {E : Type 0} → Result UnitTexts E → Text → Type 0
HasSchema result schema = IfOk result (λ t. t.schema ≡ schema)

abbrev pub IsUnder : {E : Type 0} → Result UnitTexts E → Bool → Type 0
IsUnder result under_reference = IfOk result (λ t. t.under_reference ≡ under_reference)

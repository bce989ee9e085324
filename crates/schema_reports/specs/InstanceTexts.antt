-- Whether an instance holds a fraction. If it does, its text is not covered.
use Rattle.std.specs.Prelude.{Bool, false}
use Rattle.serde_json.specs.Written.{has_float}
use Rattle.theory_definitions.specs.Instance.{Subject, a_name, a_value}

abbrev pub subject_has_float : Subject → Bool
subject_has_float (a_value d) = has_float d
subject_has_float (a_name name) = false

-- Values that the code reads, as subjects.
use Rattle.std.specs.Prelude.{Option, option_map}
use Rattle.std.proofs.Common.{Bor}
use Rattle.serde_json.specs.View.{view}
use Rattle.serde_json.specs.declared.value.Value.{Value}
use Rattle.theory_definitions.specs.Instance.{Subject, a_value}

-- the value that was read, as a subject
abbrev pub subject_read : Option (Bor Value) → Option Subject
subject_read o = option_map (λ v. a_value (view v.now)) o

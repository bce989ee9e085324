-- The code's references as values of the definitions.
use Rattle.std.specs.Prelude.{List, OnOk, Result, map, string_bytes, ◌++◌, ◌≡◌}
use Rattle.std.specs.declared.vec.Vec.{Vec}
use Rattle.std.specs.declared.alloc.Global.{Global}
use Rattle.schema_files.specs.References as spec
use Rattle.schema_files.specs.declared.references.Reference.{Reference}

abbrev pub reference_of : Reference → spec.Reference
reference_of r = record { path = r.path; uri = string_bytes r.uri }

-- if the result is `Ok`, these references were added
abbrev pub AddsReferences : {A E : Type 0} → Result A E → Vec Reference Global → Vec Reference Global → List spec.Reference → Type 0
AddsReferences result old new more = OnOk result (map reference_of new.items ≡ map reference_of old.items ++ more)

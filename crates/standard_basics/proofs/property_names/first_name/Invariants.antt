use Rattle.std.proofs.Common.{◌≡◌, map, drop, string_bytes}
use Rattle.schema_reports.specs.InstanceViews.{subject_of}
use Rattle.keyword_authoring.specs.Somes.{first_some, some_from}
use Rattle.standard_basics.specs.Words.{name_asked}
use Rattle.standard_basics.proofs.property_names.first_name.Given as goal

abbrev pub invariant-loop-place : goal.invariant-loop-place
invariant-loop-place l = some_from l.fn.start (map (name_asked (subject_of l.instance)) (map string_bytes l.names))
    ≡ first_some l.place (map (name_asked (subject_of l.instance)) (map string_bytes (drop l.place l.names)))

use Rattle.std.proofs.Common.{◌≡◌, map, drop, string_bytes}
use Rattle.schema_reports.specs.InstanceViews.{subject_of}
use Rattle.keyword_authoring.specs.Somes.{first_some, some_from}
use Rattle.standard_applicators.specs.Dependents.{dependents_from}
use Rattle.standard_applicators.proofs.dependents.first_present.Given as goal

abbrev pub invariant-loop-child : goal.invariant-loop-child
invariant-loop-child l = some_from l.fn.start (dependents_from 0 (map string_bytes l.names) (subject_of l.instance))
    ≡ first_some l.child (dependents_from l.child (map string_bytes (drop l.child l.names)) (subject_of l.instance))

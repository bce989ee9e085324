use Rattle.std.proofs.Common.{◌≡◌, map, drop}
use Rattle.std.specs.Rc.{rc_str_bytes}
use Rattle.schema_reports.specs.InstanceViews.{subject_of}
use Rattle.keyword_authoring.specs.Members.{members_from}
use Rattle.keyword_authoring.specs.Somes.{first_some, some_from}
use Rattle.standard_basics.proofs.properties.first_present.Given as goal

abbrev pub invariant-loop-child : goal.invariant-loop-child
invariant-loop-child l = some_from l.fn.start (members_from 0 (map rc_str_bytes l.names) (subject_of l.instance))
    ≡ first_some l.child (members_from l.child (map rc_str_bytes (drop l.child l.names)) (subject_of l.instance))

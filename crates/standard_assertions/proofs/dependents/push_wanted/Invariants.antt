use Rattle.std.proofs.Common.{◌≡◌, ◌++◌, map, string_bytes}
use Rattle.serde_json.specs.View.{members_view}
use Rattle.schema_reports.specs.InstanceViews.{subject_of}
use Rattle.standard_basics.specs.Words.{required_text}
use Rattle.standard_assertions.specs.Dependents.{wanted_by_each}
use Rattle.standard_assertions.proofs.dependents.push_wanted.Given as goal

abbrev pub invariant-loop-name : goal.invariant-loop-name
invariant-loop-name l = map string_bytes l.initial.texts.items ++ map required_text (wanted_by_each (members_view l.dependents.entries) (subject_of l.instance))
    ≡ map string_bytes l.texts.items ++ map required_text (wanted_by_each (members_view l.name-iterator) (subject_of l.instance))

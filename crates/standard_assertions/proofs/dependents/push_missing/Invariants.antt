use Rattle.std.proofs.Common.{◌≡◌, ◌++◌, drop, map, string_bytes}
use Rattle.serde_json.specs.View.{items_view}
use Rattle.schema_reports.specs.InstanceViews.{subject_of}
use Rattle.standard_basics.specs.Words.{required_text}
use Rattle.standard_assertions.specs.Dependents.{missing_names}
use Rattle.standard_assertions.proofs.dependents.push_missing.Given as goal

abbrev pub invariant-loop-name : goal.invariant-loop-name
invariant-loop-name l = map string_bytes l.initial.texts.items ++ map required_text (missing_names (items_view l.names) (subject_of l.instance))
    ≡ map string_bytes l.texts.items ++ map required_text (missing_names (items_view (drop l.name-index l.names)) (subject_of l.instance))

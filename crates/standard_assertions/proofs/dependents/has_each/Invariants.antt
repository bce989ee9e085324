use Rattle.std.proofs.Common.{◌≡◌, drop}
use Rattle.serde_json.specs.View.{items_view}
use Rattle.schema_reports.specs.InstanceViews.{subject_of}
use Rattle.schema_traits.specs.KeywordViews.{is_nil}
use Rattle.standard_assertions.specs.Dependents.{missing_names}
use Rattle.standard_assertions.proofs.dependents.has_each.Given as goal

abbrev pub invariant-loop-name : goal.invariant-loop-name
invariant-loop-name l = is_nil (missing_names (items_view l.names) (subject_of l.instance)) ≡ is_nil (missing_names (items_view (drop l.name-index l.names)) (subject_of l.instance))

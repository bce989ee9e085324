use Rattle.std.proofs.Common.{◌≡◌}
use Rattle.serde_json.specs.View.{members_view}
use Rattle.schema_reports.specs.InstanceViews.{subject_of}
use Rattle.schema_traits.specs.KeywordViews.{is_nil}
use Rattle.standard_assertions.specs.Dependents.{wanted_by_each}
use Rattle.standard_assertions.proofs.dependents.meets.Given as goal

abbrev pub invariant-loop-name : goal.invariant-loop-name
invariant-loop-name l = is_nil (wanted_by_each (members_view l.dependents.entries) (subject_of l.instance)) ≡ is_nil (wanted_by_each (members_view l.name-iterator) (subject_of l.instance))

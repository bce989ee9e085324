use Rattle.std.proofs.Common.{◌≡◌, ◌++◌, map, true}
use Rattle.serde_json.specs.View.{members_view, view}
use Rattle.schema_reports.specs.UnitViews.{report_in}
use Rattle.standard_outputs.specs.Basic.{member_objects}
use Rattle.standard_outputs.proofs.basic_units.push_members.Given as goal

-- what is there and what is still to come is what there was and all members
abbrev pub invariant-loop-name : goal.invariant-loop-name
invariant-loop-name l = map view l.initial.objects.items ++ member_objects (report_in true l.report) (members_view l.members.entries)
    ≡ map view l.objects.items ++ member_objects (report_in true l.report) (members_view l.name-iterator)

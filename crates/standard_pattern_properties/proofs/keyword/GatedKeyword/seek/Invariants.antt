use Rattle.std.proofs.Common.{◌≡◌, length}
use Rattle.schema_reports.specs.InstanceViews.{subject_of}
use Rattle.standard_pattern_properties.specs.GatedKeywords.{form_of, gates_of}
use Rattle.standard_pattern_properties.specs.GateMoves.{seeks}
use Rattle.standard_pattern_properties.proofs.keyword.GatedKeyword.seek.Given as goal

abbrev pub invariant-loop-next : goal.invariant-loop-next
invariant-loop-next l = (l.run.mode ≡ l.initial.run.mode)
    × (seeks (gates_of l.self) (form_of l.self) (subject_of l.instance) l.run.mode l.number l.run.left l.run.names
    ≡ seeks (gates_of l.self) (form_of l.self) (subject_of l.instance) l.initial.run.mode l.initial.number l.initial.run.left l.initial.run.names)

abbrev pub decreases-loop-next : goal.decreases-loop-next
decreases-loop-next l = length l.run.names

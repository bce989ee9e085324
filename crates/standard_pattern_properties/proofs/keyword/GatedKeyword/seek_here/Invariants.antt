use Rattle.std.proofs.Common.{◌≡◌, ◌-◌, List, drop, length}
use Rattle.theory_definitions.specs.Instance.{Subject, Text}
use Rattle.standard_pattern_properties.specs.GatedKeywords.{form_of, gates_of}
use Rattle.standard_pattern_properties.specs.GateMoves.{Move, at_gates}
use Rattle.standard_pattern_properties.proofs.keyword.GatedKeyword.seek_here.Given as goal

abbrev pub invariant-loop-gate : goal.invariant-loop-gate
invariant-loop-gate l = (l.run.names ≡ l.initial.run.names) × (l.run.mode ≡ l.initial.run.mode)
    × ((s : Subject) (next : List Text → Move)
    → at_gates (gates_of l.self) (form_of l.self) s l.run.mode l.run.names l.run.left l.name l.number (drop l.number (gates_of l.self)) next
    ≡ at_gates (gates_of l.self) (form_of l.self) s l.initial.run.mode l.initial.run.names l.initial.run.left l.name l.initial.number (drop l.initial.number (gates_of l.self)) next)

abbrev pub decreases-loop-gate : goal.decreases-loop-gate
decreases-loop-gate l = length (gates_of l.self) - l.number

use Rattle.std.proofs.Common.{◌≡◌, ◌-◌, length, map}
use Rattle.schema_compiler.specs.Reserving.{with_nodes_from}
use Rattle.schema_compiler.specs.ReservedViews.{node_of, reserved_of}
use Rattle.schema_compiler.proofs.compiler.reservations.fill_from.Given as goal

-- what is left to be filled completes the whole
abbrev pub invariant-loop-number : goal.invariant-loop-number
invariant-loop-number l = with_nodes_from l.number (node_of l.node) (map reserved_of l.items.items) ≡ with_nodes_from l.from (node_of l.node) (map reserved_of l.initial.items.items)

abbrev pub decreases-loop-number : goal.decreases-loop-number
decreases-loop-number l = length l.items.items - l.number

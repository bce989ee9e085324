use Rattle.std.proofs.Common.{arith}
use Rattle.standard_pattern_properties.proofs.GateNumbers.{gate_there, no_gate}
use Rattle.standard_pattern_properties.proofs.keyword.pattern_gate.Goals as goal

pub returns-then-number-patterns-clause-gate : goal.returns-then-number-patterns-clause-gate
returns-then-number-patterns-clause-gate c = gate_there c.args.number c.args.patterns.now (omega arith)

pub returns-else-number-patterns-clause-gate : goal.returns-else-number-patterns-clause-gate
returns-else-number-patterns-clause-gate c = no_gate c.args.number c.args.patterns.now (omega arith)

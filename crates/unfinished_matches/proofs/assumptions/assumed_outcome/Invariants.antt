use Rattle.std.proofs.Common.{◌≡◌, drop}
use Rattle.theory_definitions.specs.Matching.{assumed}
use Rattle.unfinished_matches.proofs.assumptions.assumed_outcome.Given as goal

abbrev pub invariant-loop-i : goal.invariant-loop-i
invariant-loop-i l = assumed l.list (record { pattern = l.pattern; subject = l.subject }) ≡ assumed (drop l.i l.list) (record { pattern = l.pattern; subject = l.subject })

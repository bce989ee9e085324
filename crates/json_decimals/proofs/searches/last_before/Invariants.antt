use Rattle.std.proofs.Common.{◌-◌}
use Rattle.json_decimals.specs.Searches.{IsBracket}
use Rattle.json_decimals.proofs.searches.last_before.Given as goal

abbrev pub invariant-loop-bracket : goal.invariant-loop-bracket
invariant-loop-bracket g l = IsBracket (goal.F-post g l.test) 0 l.end l.bracket

abbrev pub decreases-loop-bracket : goal.decreases-loop-bracket
decreases-loop-bracket g l = l.bracket.high - l.bracket.low

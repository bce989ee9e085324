use Rattle.std.proofs.Common.{ap}
use Rattle.pattern_backtracking.specs.Counting.{then_gives}
use Rattle.pattern_backtracking.proofs.Traces.{nothing}
use Rattle.pattern_backtracking.proofs.frames.push_at.Goals as goal

pub returns-in_default : goal.returns-in_default
returns-in_default c = record { pushed = nothing _ _ _ _ (ap (then_gives c.args.captures.items) c.in_default.is) }

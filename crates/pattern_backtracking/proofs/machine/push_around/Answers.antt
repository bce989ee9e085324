use Rattle.std.proofs.Common.{ap}
use Rattle.pattern_backtracking.specs.Piles.{state, answer}
use Rattle.pattern_backtracking.proofs.Traces.{nothing}
use Rattle.pattern_backtracking.proofs.Steps.{answer-denied, answer-missed, not-false}
use Rattle.pattern_backtracking.proofs.machine.push_around.Goals as goal

pub returns-else-look : goal.returns-else-look
returns-else-look c = record { pushed = nothing _ _ _ _ (answer-denied c.args.look (state c.args.place c.args.captures.items) c.args.first c.in-Found.found c.if-look.false c.in-Found.is) }

pub returns-else-not-look : goal.returns-else-not-look
returns-else-not-look c = record { pushed = nothing _ _ _ _ (answer-missed c.args.look (state c.args.place c.args.captures.items) c.args.first (not-false c.args.look.wanted c.if-not-look.false) c.in-Missing.is) }

pub returns-in-Limit : goal.returns-in-Limit
returns-in-Limit c = record { pushed = nothing _ _ _ _ (ap (answer c.args.look (state c.args.place c.args.captures.items)) c.in-Limit.is) }

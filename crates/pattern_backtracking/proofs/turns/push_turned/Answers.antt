use Rattle.pattern_backtracking.specs.Piles.{state, visited}
use Rattle.pattern_backtracking.proofs.Traces.{nothing}
use Rattle.pattern_backtracking.proofs.Steps.{turned-idle, is_idle-same}
use Rattle.pattern_backtracking.proofs.turns.push_turned.Goals as goal

pub returns-then-place-from : goal.returns-then-place-from
returns-then-place-from c = record { pushed = nothing _ _ _ _ (turned-idle (visited c.args.body.now c.args.ahead c.args.s.now) c.args.left c.args.turns c.args.from (state c.args.place c.args.captures.items) (is_idle-same c.args.turns c.args.from (state c.args.place c.args.captures.items) c.if-turns-eq0.true c.if-place-from.true)) }

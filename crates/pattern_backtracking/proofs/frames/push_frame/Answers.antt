use Rattle.std.proofs.Common.{ap, ◌∙◌}
use Rattle.pattern_backtracking.specs.Piles.{pile_trace}
use Rattle.pattern_backtracking.proofs.Traces.{pile-push}
use Rattle.pattern_backtracking.proofs.frames.push_frame.Goals as goal

pub returns : goal.returns
returns c = record { pushed = ap (pile_trace c.args.s.now) c.in_ok-push.ensures.items ∙ pile-push _ _ _ }

use Rattle.std.proofs.Common.{◌∙◌}
use Rattle.pattern_backtracking.proofs.Traces.{pushed-one}
use Rattle.pattern_backtracking.proofs.frames.push_task.Goals as goal

pub returns : goal.returns
returns c = record { pushed = c.in_ok-push_frame.ensures.pushed ∙ pushed-one _ _ _ _ _ _ c.in_ok-push.ensures.items }

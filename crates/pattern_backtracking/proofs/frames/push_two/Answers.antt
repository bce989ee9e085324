use Rattle.std.proofs.Common.{◌∙◌}
use Rattle.pattern_backtracking.proofs.Traces.{pushed-task}
use Rattle.pattern_backtracking.proofs.frames.push_two.Goals as goal

pub returns : goal.returns
returns c = record { pushed = c.in_ok-push_task.ensures.pushed ∙ pushed-task _ _ _ _ _ _ c.in_ok-push.ensures.items }

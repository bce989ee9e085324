use Rattle.pattern_backtracking.proofs.Traces.{in-turn}
use Rattle.pattern_backtracking.proofs.frames.push_either.Goals as goal

pub returns : goal.returns
returns c = record {
  pushed = in-turn _ _ _ _ _ _ _
      (rw (c.in_ok-copied_tasks.ensures.copied, c.in_ok-copied_captures.ensures.copied) at c.in_ok-push_task.ensures.pushed)
      c.in_ok-push_task-2.ensures.pushed;
}

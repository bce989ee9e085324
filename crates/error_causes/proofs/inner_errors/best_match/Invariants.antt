use Rattle.std.specs.List.{IsFirstMaxByKey}
use Rattle.error_causes.specs.Causes.{entry_depth}
use Rattle.error_causes.proofs.inner_errors.best_match.Given as goal

-- of the errors so far this one is the first of those that lie deepest
abbrev pub invariant-loop-i : goal.invariant-loop-i
invariant-loop-i l = IsFirstMaxByKey entry_depth l.errors l.i l.best

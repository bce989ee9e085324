use Rattle.std.proofs.Common.{◌≡◌, ◌≤◌, ◌-◌, Some, Ok, reverse}
use denote.Param.Always.{always_mut}
use Rattle.theory_definitions.specs.Unfinished.{Failure}
use Rattle.unfinished_search.proofs.Forest.{Completes}
use Rattle.theory_meaning.specs.Search.{UsesBelow}
use Rattle.unfinished_search.proofs.search.assume_within.Given as goal

abbrev pub invariant-loop-outcomes : goal.invariant-loop-outcomes
invariant-loop-outcomes g l = record {
  callable : always_mut g.F.FnMut l.run;
  within : l.runs ≤ l.run_limit;
  uses : UsesBelow l.runs (goal.F-step g) l.fn.run l.run;
  completes : (u : Failure) → l.fn.first.unassumed ≡ Some u → Completes (λ s x m t end. goal.F-step g s x (Ok (m, t)) end) l.fn.first u l.fn.run (reverse l.pending.items) l.run l.results.items l.runs l.failure;
}

abbrev pub decreases-loop-outcomes : goal.decreases-loop-outcomes
decreases-loop-outcomes g l = l.run_limit - l.runs

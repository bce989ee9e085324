use Rattle.std.proofs.Common.{◌∙◌, ◌+◌, ◌-◌, ap, sym}
use Rattle.pattern_trees.specs.Matching.{cleared}
use Rattle.pattern_backtracking.proofs.Counts.{cleared-step}
use Rattle.pattern_backtracking.proofs.captures.clear.Goals as goal

pub loop-k-preserved : goal.loop-k-preserved
loop-k-preserved c =
    c.loop-k.invariant ∙ cleared-step c.args.count c.loop-k.k c.args.first c.loop-k.captures.items c.loop-k-test.true
    ∙ ap (cleared (c.args.count - (c.loop-k.k + 1)) (c.args.first + (c.loop-k.k + 1))) (sym c.forget.ensures.forgotten)

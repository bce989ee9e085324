use Rattle.pattern_trees.specs.Sets.{AreInOrder}
use Rattle.pattern_trees.proofs.char_set.are_in_order.Given as goal

abbrev pub invariant-loop-i : goal.invariant-loop-i
invariant-loop-i l = AreInOrder l.spans l.i

use Rattle.std.proofs.Common.{◌≡◌, ◌≤◌, ◌+◌, ◌*◌, ◌/◌, length, max}
use Rattle.pattern_trees.specs.declared.tree.Tree.{size-Tree}
use Rattle.pattern_trees.specs.Patterns.{Iterates}
use Rattle.pattern_rows.specs.Rows.{has, width}
use Rattle.pattern_sets.specs.Images.{IsImage, leads}
use Rattle.pattern_trees.specs.Nodes.{node_of}
use Rattle.pattern_trees.specs.Trees.{pattern_of}
use Rattle.pattern_sets.proofs.Reaching.{Reached, ReachesWithin, missing}
use Rattle.pattern_sets.proofs.row_walks.+walk.Given as goal

abbrev pub invariant-walk_any-rounds : goal.invariant-walk_any-rounds
invariant-walk_any-rounds l = record {
  width_all : width l.all ≡ length l.text / 64;
  width_fresh : width l.fresh ≡ length l.text / 64;
  width_from : width l.fn.from ≡ length l.text / 64;
  reached : Reached (leads l.forward (pattern_of (node_of l.body)) l.text) (λ _. Unit {0}) (has l.fn.from) (has l.all) (has l.fresh);
}

abbrev pub decreases-walk_any-rounds : goal.decreases-walk_any-rounds
decreases-walk_any-rounds l = missing (has l.all) (64 * (length l.text / 64) + 64)

abbrev pub invariant-walk_at_most-rounds : goal.invariant-walk_at_most-rounds
invariant-walk_at_most-rounds l = record {
  width_all : width l.all ≡ length l.text / 64;
  width_fresh : width l.fresh ≡ length l.text / 64;
  width_from : width l.fn.from ≡ length l.text / 64;
  reached : Reached (leads l.forward (pattern_of (node_of l.body)) l.text) (λ n. n ≤ l._round) (has l.fn.from) (has l.all) (has l.fresh);
  within : ReachesWithin (leads l.forward (pattern_of (node_of l.body)) l.text) l._round (has l.fn.from) (has l.all);
}

abbrev pub invariant-walk_exactly-rounds : goal.invariant-walk_exactly-rounds
invariant-walk_exactly-rounds l = record {
  width_at : width l.at ≡ length l.text / 64;
  width_from : width l.fn.from ≡ length l.text / 64;
  exact : IsImage (Iterates (leads l.forward (pattern_of (node_of l.body)) l.text) l._round) (has l.fn.from) (has l.at);
}

abbrev pub decreases-walk : goal.decreases-walk
decreases-walk l = 7 * size-Tree l.tree.now + 1

abbrev pub decreases-lead : goal.decreases-lead
decreases-lead l = 7 * size-Tree l.tree.now

abbrev pub decreases-walk_both : goal.decreases-walk_both
decreases-walk_both l = 7 * max (size-Tree l.a.now) (size-Tree l.b.now) + 2

abbrev pub decreases-walk_choice : goal.decreases-walk_choice
decreases-walk_choice l = 7 * max (size-Tree l.a.now) (size-Tree l.b.now) + 2

abbrev pub decreases-walk_look : goal.decreases-walk_look
decreases-walk_look l = 7 * size-Tree l.body.now + 3

abbrev pub decreases-walk_peek : goal.decreases-walk_peek
decreases-walk_peek l = 7 * size-Tree l.body.now + 2

abbrev pub decreases-walk_times : goal.decreases-walk_times
decreases-walk_times l = 7 * size-Tree l.body.now + 6

abbrev pub decreases-walk_turns : goal.decreases-walk_turns
decreases-walk_turns l = 7 * size-Tree l.body.now + 5

abbrev pub decreases-walk_least : goal.decreases-walk_least
decreases-walk_least l = 7 * size-Tree l.body.now + 4

abbrev pub decreases-walk_exactly : goal.decreases-walk_exactly
decreases-walk_exactly l = 7 * size-Tree l.body.now + 2

abbrev pub decreases-walk_any : goal.decreases-walk_any
decreases-walk_any l = 7 * size-Tree l.body.now + 3

abbrev pub decreases-walk_at_most : goal.decreases-walk_at_most
decreases-walk_at_most l = 7 * size-Tree l.body.now + 3

abbrev pub decreases-walk_spread : goal.decreases-walk_spread
decreases-walk_spread l = 7 * size-Tree l.body.now + 2

use Rattle.std.proofs.Common.{◌≤◌, ◌+◌, ◌*◌, max, length}
use Rattle.pattern_trees.specs.declared.tree.Tree.{size-Tree}
use Rattle.pattern_trees.specs.Patterns.{Iterates}
use Rattle.pattern_sets.specs.Images.{IsImage, in_word, leads}
use Rattle.pattern_trees.specs.Nodes.{node_of}
use Rattle.pattern_trees.specs.Trees.{pattern_of}
use Rattle.pattern_sets.proofs.Reaching.{Reached, ReachesWithin, missing}
use Rattle.pattern_sets.proofs.word_walks.+word_walk.Given as goal

abbrev pub invariant-word_any-rounds : goal.invariant-word_any-rounds
invariant-word_any-rounds l = Reached (leads l.forward (pattern_of (node_of l.body)) l.text) (λ _. Unit {0}) (in_word l.fn.from) (in_word l.reached) (in_word l.fresh)

abbrev pub decreases-word_any-rounds : goal.decreases-word_any-rounds
decreases-word_any-rounds l = missing (in_word l.reached) (length l.text + 64)

abbrev pub invariant-word_at_most-rounds : goal.invariant-word_at_most-rounds
invariant-word_at_most-rounds l = record {
  reached : Reached (leads l.forward (pattern_of (node_of l.body)) l.text) (λ n. n ≤ l._round) (in_word l.fn.from) (in_word l.reached) (in_word l.fresh);
  within : ReachesWithin (leads l.forward (pattern_of (node_of l.body)) l.text) l._round (in_word l.fn.from) (in_word l.reached);
}

abbrev pub invariant-word_exactly-rounds : goal.invariant-word_exactly-rounds
invariant-word_exactly-rounds l = IsImage (Iterates (leads l.forward (pattern_of (node_of l.body)) l.text) l._round) (in_word l.fn.from) (in_word l.at)

abbrev pub decreases-word_walk : goal.decreases-word_walk
decreases-word_walk l = 8 * size-Tree l.tree.now + 1

abbrev pub decreases-word_lead : goal.decreases-word_lead
decreases-word_lead l = 8 * size-Tree l.tree.now

abbrev pub decreases-word_both : goal.decreases-word_both
decreases-word_both l = 8 * max (size-Tree l.a.now) (size-Tree l.b.now) + 3

abbrev pub decreases-word_first : goal.decreases-word_first
decreases-word_first l = 8 * size-Tree l.tree.now + 2

abbrev pub decreases-word_choice : goal.decreases-word_choice
decreases-word_choice l = 8 * max (size-Tree l.a.now) (size-Tree l.b.now) + 4

abbrev pub decreases-word_branch : goal.decreases-word_branch
decreases-word_branch l = 8 * size-Tree l.tree.now + 2

abbrev pub decreases-word_look : goal.decreases-word_look
decreases-word_look l = 8 * size-Tree l.body.now + 6

abbrev pub decreases-word_peek : goal.decreases-word_peek
decreases-word_peek l = 8 * size-Tree l.body.now + 5

abbrev pub decreases-word_reaches : goal.decreases-word_reaches
decreases-word_reaches l = 8 * size-Tree l.tree.now + 3

abbrev pub decreases-both_reach : goal.decreases-both_reach
decreases-both_reach l = 8 * max (size-Tree l.a.now) (size-Tree l.b.now) + 4

abbrev pub decreases-walk_reaches : goal.decreases-walk_reaches
decreases-walk_reaches l = 8 * size-Tree l.tree.now + 2

abbrev pub decreases-word_times : goal.decreases-word_times
decreases-word_times l = 8 * size-Tree l.body.now + 5

abbrev pub decreases-word_turns : goal.decreases-word_turns
decreases-word_turns l = 8 * size-Tree l.body.now + 4

abbrev pub decreases-word_exactly : goal.decreases-word_exactly
decreases-word_exactly l = 8 * size-Tree l.body.now + 2

abbrev pub decreases-word_any : goal.decreases-word_any
decreases-word_any l = 8 * size-Tree l.body.now + 3

abbrev pub decreases-word_at_most : goal.decreases-word_at_most
decreases-word_at_most l = 8 * size-Tree l.body.now + 3

abbrev pub decreases-word_spread : goal.decreases-word_spread
decreases-word_spread l = 8 * size-Tree l.body.now + 2

abbrev pub decreases-word_row : goal.decreases-word_row
decreases-word_row l = 8 * max (size-Tree l.first.now) (size-Tree l.rest.now) + 7

abbrev pub decreases-word_on : goal.decreases-word_on
decreases-word_on l = 8 * size-Tree l.tree.now + 3

abbrev pub decreases-word_times_row : goal.decreases-word_times_row
decreases-word_times_row l = 8 * max (size-Tree l.body.now) (size-Tree l.rest.now) + 6

abbrev pub decreases-word_run_row : goal.decreases-word_run_row
decreases-word_run_row l = 8 * size-Tree l.rest.now + 4

abbrev pub decreases-word_run_pair : goal.decreases-word_run_pair
decreases-word_run_pair l = 8 * max (size-Tree l.first.now) (size-Tree l.rest.now) + 8

abbrev pub decreases-word_branch_row : goal.decreases-word_branch_row
decreases-word_branch_row l = 8 * max (size-Tree l.first.now) (size-Tree l.rest.now) + 8

abbrev pub decreases-word_choice_on : goal.decreases-word_choice_on
decreases-word_choice_on l = 8 * max (size-Tree l.a.now) (size-Tree l.b.now) + 3

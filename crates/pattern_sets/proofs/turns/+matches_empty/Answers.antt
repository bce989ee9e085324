use Rattle.std.proofs.Common.{◌≡◌, ◌-◌, subst}
use Rattle.std.specs.Prelude.{option_map}
use Rattle.pattern_sets.specs.Images.{MatchesEmpty}
use Rattle.pattern_trees.specs.declared.tree.Tree.{Tree}
use Rattle.pattern_trees.specs.Nodes.{node_of}
use Rattle.pattern_trees.specs.Trees.{pattern_of}
use Rattle.pattern_sets.proofs.Emptiness.{turns_empty}
use Rattle.pattern_sets.proofs.turns.+matches_empty.Goals as goal

-- the same of a body, as it was read from its box
empty_at : (a b : Tree) → a ≡ b → MatchesEmpty (pattern_of (node_of a)) → MatchesEmpty (pattern_of (node_of b))
empty_at a b same empty = subst (λ (x : Tree). MatchesEmpty (pattern_of (node_of x))) same empty

pub returns-else-turns-eq0 : goal.returns-else-turns-eq0
returns-else-turns-eq0 t c =
    let turns = c.in-Times.turns in
    record {
      empty = λ h. rw c.in-Times.is (turns_empty turns.min (option_map (λ most. most - turns.min) turns.max) (pattern_of (node_of c.in-Times.body.value))
          (empty_at c.deref-else-turns-eq0.result.now c.in-Times.body.value c.deref-else-turns-eq0.ensures (c.matches_empty-else-turns-eq0.ensures.empty h)));
    }

pub returns-then-matches_empty : goal.returns-then-matches_empty
returns-then-matches_empty t c =
    record {
      empty = λ h. rw c.in-Pair.is (λ text i. (
        i,
        empty_at c.deref-in-Pair.result.now c.in-Pair.a.value c.deref-in-Pair.ensures (c.matches_empty-in-Pair.ensures.empty c.if-matches_empty.true) text i,
        empty_at c.deref-then-matches_empty.result.now c.in-Pair.b.value c.deref-then-matches_empty.ensures (c.matches_empty-then-matches_empty.ensures.empty h) text i,
      ));
    }

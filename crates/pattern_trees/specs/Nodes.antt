-- Patterns as pure data, the trees of ECMA-262 (22.2.1). Groups are numbered from 0, in the order of
-- their opening brackets.
use Rattle.std.specs.Prelude.{ℕ, List}
use Rattle.pattern_trees.specs.declared.tree.Edge.{Edge}
use Rattle.pattern_trees.specs.declared.tree.Look.{Look}
use Rattle.pattern_trees.specs.declared.tree.Tree.{Tree}
use Rattle.pattern_trees.specs.declared.tree.Tree.TheVariants as tree
use Rattle.pattern_trees.specs.declared.tree.Turns.{Turns}

pub data Node : Type 0 where
  -- the empty pattern
  Nothing : Node
  -- one character of a set, given by its spans
  OneOf : (spans : List (ℕ × ℕ)) → Node
  -- ^ $ \b \B
  At : (edge : Edge) → Node
  -- a back reference to a group
  Reference : (group : ℕ) → Node
  -- a group that captures
  Group : (group : ℕ) (body : Node) → Node
  -- a lookaround
  Around : (look : Look) (body : Node) → Node
  -- a quantifier
  Times : (turns : Turns) (body : Node) → Node
  -- one after the other
  Pair : (first second : Node) → Node
  -- one or the other
  Choice : (left right : Node) → Node

-- the pattern that a tree of the code stands for
abbrev pub node_of : Tree → Node
node_of tree.Nothing = Nothing
node_of (tree.OneOf set) = OneOf set.spans.items
node_of (tree.At edge) = At edge
node_of (tree.Reference k) = Reference k
node_of (tree.Group' k p a) = Group k (node_of a)
node_of (tree.Around' look p a) = Around look (node_of a)
node_of (tree.Times' t p a) = Times t (node_of a)
node_of (tree.Pair' p a q b) = Pair (node_of a) (node_of b)
node_of (tree.Choice' p a q b) = Choice (node_of a) (node_of b)

use Rattle.std.proofs.Common.{◌≡◌, ◌∙◌, ◌+◌, Bool, sym, length}
use Rattle.std.specs.Prelude.{Option, Some, None, IfSome}
use Rattle.pattern_backtracking.specs.Counting.{decided}
use Rattle.pattern_trees.specs.Nodes.{node_of}
use Rattle.pattern_trees.specs.Matching.{found, Chars}
use Rattle.pattern_trees.specs.Nodes.{Node}
use Rattle.std.proofs.Common.{ℕ}
use Rattle.pattern_backtracking.proofs.Erasing.{told-decided, enough-decided}
use Rattle.pattern_backtracking.proofs.search.find_within.Goals as goal

told-option : (a : Node) (g : ℕ) (s : Chars) (m : ℕ) (o : Option Bool) → o ≡ decided a g s m → IfSome o (λ b. b ≡ found a g s)
told-option a g s m None e = tt
told-option a g s m (Some b) e = told-decided a g s (length s + 1) 0 m b (sym e)

pub returns-clause-right : goal.returns-clause-right
returns-clause-right c = told-option (node_of c.args.tree.now) c.args.groups c.args.s.now c.args.limit c.in_ok-found.found c.in_ok-found.ensures.decided

pub returns-clause-enough : goal.returns-clause-enough
returns-clause-enough c = λ l e. enough-decided (node_of c.args.tree.now) c.args.groups c.args.s.now (length c.args.s.now + 1) 0 c.args.limit l (sym c.in_ok-found.ensures.decided ∙ e)

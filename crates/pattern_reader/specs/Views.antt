-- The states of the code as the definition has them. A vector has its last one at its end.
use Rattle.std.specs.Prelude.{ℕ, List, [], ◌∷◌, ◌++◌, option_map}
use Rattle.pattern_trees.specs.Nodes.{Node, node_of}
use Rattle.pattern_reader.specs.States as spec
use Rattle.pattern_reader.specs.declared.states.Part.{Part}
use Rattle.pattern_reader.specs.declared.states.Term.{Term}
use Rattle.pattern_reader.specs.declared.states.Level.{Level}
use Rattle.pattern_reader.specs.declared.states.State.{State}

abbrev pub part_of : Part → ℕ × Node
part_of p = (p.rank, node_of p.tree)

unfoldable pub parts_of : List Part → spec.Parts
parts_of [] = []
parts_of (p ∷ parts) = parts_of parts ++ part_of p ∷ []

abbrev pub term_of : Term → spec.Term
term_of t = record { node = node_of t.tree; before = t.before; repeatable = t.repeatable }

abbrev pub level_of : Level → spec.Level
level_of l = record {
  wrap = l.wrap;
  before = l.before;
  flags = l.flags;
  others = parts_of l.others.items;
  terms = parts_of l.terms.items;
  last = option_map term_of l.last;
}

unfoldable pub levels_of : List Level → List spec.Level
levels_of [] = []
levels_of (l ∷ levels) = levels_of levels ++ level_of l ∷ []

abbrev pub state_of : State → spec.State
state_of s = record { top = level_of s.top; around = levels_of s.around.items; groups = s.groups }

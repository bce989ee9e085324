-- The parts and the questions of a solver, as data.
use Rattle.std.specs.Prelude.{Bool, List, None, false, length, slice_index_or, ℕ}
use Rattle.theory_definitions.specs.Keywords.{Answer, Keywords}
use Rattle.theory_definitions.specs.Matching.{Matcher}
use Rattle.schema_traits.specs.declared.keyword.Validate as keyword
use Rattle.schema_traits.specs.declared.matcher.Matcher as matcher
use Rattle.schema_node_table.specs.NodeTable.{NodeEntry, numbered}
use Rattle.schema_solver.specs.declared.question.SolverEngine.{SolverEngine}
use Rattle.schema_solver.specs.Solving.{Setting}

-- whether a number is inlined
abbrev pub is_followed_in : List Bool → ℕ → Bool
is_followed_in followed i = slice_index_or followed i false

-- with no limit
abbrev pub solver_over : {K R C : Type 0} → (Bool → Keywords K R) → (K → Bool) → (C → K) → List (NodeEntry C) → List Bool → Matcher → Setting K R
solver_over words is_whole shape ns followed matcher = record {
  words = words;
  is_whole = is_whole;
  nodes = numbered shape ns;
  count = length ns;
  is_followed = is_followed_in followed;
  matcher = matcher;
  most = None;
}

-- with the limit of an engine
abbrev pub solver_of : {K R C M : Type 0} → (Bool → Keywords K R) → (K → Bool) → (C → K) → (M → Matcher) → SolverEngine C M → Setting K R
solver_of words is_whole shape matching e = record (solver_over words is_whole shape e.nodes.now e.followed.now (matching e.matcher.now)) { most = e.most }

-- the same, by all members of the keyword type's and the matcher type's traits
abbrev pub solver_by : {C R K M : Type 0} → keyword.Ghosts C R K → matcher.Ghosts M → SolverEngine C M → Setting K (R × Answer)
solver_by k m e = solver_of k.words k.is_whole k.shape m.matching e

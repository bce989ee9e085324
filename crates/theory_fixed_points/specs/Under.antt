-- What a number says at a place if a set of pairs answers for some of the edges, and each other
-- edge has the answer of its node.
use Rattle.std.specs.Prelude.{Bool, [], false, suc, true, zero, ℕ, ◌<◌, ◌≡◌}
use Rattle.serde_json.specs.Data.{Data}
use Rattle.theory_definitions.specs.Instance.{Place}
use Rattle.theory_definitions.specs.Matching.{Completion, Matcher}
use Rattle.theory_definitions.specs.Keywords.{Below, Keywords}
use Rattle.theory_definitions.specs.Meaning.{place_below}
use Rattle.theory_definitions.specs.Laws.{EachKeeps}
use Rattle.theory_definitions.specs.Guarded.{NodeEdge, Nodes}
use Rattle.theory_meaning.specs.Numbered.{Ranked, left, subject_in}
use Rattle.theory_fixed_points.specs.NodesSay.{AreMonotone, AreUntold, node_holds}

-- A set of pairs of a number and a place.
abbrev pub PairSet : Type 0
PairSet = ℕ → Place → Bool

-- A problem to solve: numbered nodes and their count, an instance, a completion, and which edges
-- are cut, that is, answered by a set of pairs.
pub record Solving (K R : Type 0) : Type 0 where
  pub keywords : Keywords K R
  pub matcher : Matcher
  pub nodes : Nodes K
  pub count : ℕ
  pub instance : Data
  pub completion : Completion
  pub cut : NodeEdge → Bool

-- Each keyword keeps its laws and is not told what others span, unguarded edges lead to a lower rank,
-- and every guarded edge is cut. Of two edges to the same number that are guarded alike, both are
-- cut or neither is.
pub record IsSolvable {K R : Type 0} (w : Solving K R) : Type 0 where
  pub laws : EachKeeps w.keywords
  pub untold : AreUntold w.keywords w.nodes w.count
  pub ranked : Ranked w.nodes w.count
  pub cuts : (e : NodeEdge) → e.guarded ≡ true → w.cut e ≡ true
  pub alike : (a b : NodeEdge) → a.node ≡ b.node → a.guarded ≡ b.guarded → w.cut a ≡ w.cut b

-- Each keyword is monotone.
abbrev pub EachMonotone : {K R : Type 0} → Solving K R → Type 0
EachMonotone w = AreMonotone w.keywords w.nodes w.count

-- The answers of the edges that are cut, by the edge and the place to which it leads.
abbrev pub EdgeAnswers : Type 0
EdgeAnswers = NodeEdge → Place → Bool

-- Edges to the same number that are guarded alike have the same answers.
abbrev pub AreAlike : EdgeAnswers → Type 0
AreAlike answers = (a b : NodeEdge) (p : Place) → a.node ≡ b.node → a.guarded ≡ b.guarded → answers a p ≡ answers b p

-- A set answers each edge by the pair to which the edge leads.
abbrev pub by_set : PairSet → EdgeAnswers
by_set inside e p = inside e.node p

module _ {K R : Type 0} (w : Solving K R) where
  -- The answer of an edge: the given one if the edge is cut, and otherwise what its number says.
  abbrev pub across_by : EdgeAnswers → PairSet → Place → NodeEdge → Below → Bool
  across_by answers go p e b = elim (w.cut e) [ true ↦ answers e (place_below p b) | false ↦ go e.node (place_below p b) ]

  -- What a number says, with at most n edges in a row that are not cut.
  abbrev pub by_within : EdgeAnswers → ℕ → PairSet
  by_within answers zero i p = true
  by_within answers (suc n) i p = node_holds w.keywords w.matcher w.nodes (subject_in w.instance) w.completion i p (across_by answers (by_within answers n) p)

  -- What a number says at a sufficient depth.
  abbrev pub under_by : EdgeAnswers → PairSet
  under_by answers i p = by_within answers (suc (left w.nodes w.count i (subject_in w.instance p) [])) i p

  -- ---- the same with a set of pairs

  -- What a number says if this set answers the edges that are cut.
  abbrev pub under : PairSet → PairSet
  under inside = under_by (by_set inside)

  -- A set stands by itself if each pair of the set holds under the set.
  abbrev pub Stands : PairSet → Type 0
  Stands inside = (i : ℕ) (p : Place) → i < w.count → inside i p ≡ true → under inside i p ≡ true

  -- The pair holds under no set that stands by itself.
  abbrev pub FailsUnderEach : ℕ → Place → Type 0
  FailsUnderEach i p = (inside : PairSet) → Stands inside → under inside i p ≡ true → ⊥

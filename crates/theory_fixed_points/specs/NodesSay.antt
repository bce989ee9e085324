-- The greatest solution over numbered nodes. If every keyword is monotone, it is what nodes say
-- under guards.
use Rattle.std.specs.List.{list_all}
use Rattle.std.specs.Prelude.{All, Bool, [], false, true, ℕ, ◌<◌, ◌↔◌, ◌≡◌}
use Rattle.serde_json.specs.Data.{Data}
use Rattle.theory_definitions.specs.Instance.{Place, Subject, Text}
use Rattle.theory_definitions.specs.Matching.{Completion, Matcher, matching}
use Rattle.theory_definitions.specs.Keywords.{Below, Keywords, here}
use Rattle.theory_definitions.specs.Meaning.{place_below}
use Rattle.theory_definitions.specs.Laws.{EachKeeps}
use Rattle.theory_definitions.specs.Guarded.{NodeEdge, NodeForm, Nodes, guarded_within, node_always, node_asked, node_keyword, node_never, node_outcome, node_reference, node_these, yes_outcome}
use Rattle.theory_meaning.specs.Fractions.{node_words}
use Rattle.theory_meaning.specs.Greatest.{IsMonotone}
use Rattle.theory_meaning.specs.Numbered.{Ranked, left, subject_in}
use Rattle.theory_meaning.specs.Untold.{NeverTold}

-- Each keyword of these numbers is monotone.
abbrev pub AreMonotone : {K R : Type 0} → Keywords K R → Nodes K → ℕ → Type 0
AreMonotone keywords nodes count = (i : ℕ) → i < count → All (IsMonotone keywords) (node_words (nodes.entries i))

-- Each keyword keeps its laws, and none is told what others span.
pub record KeepsUntold {K R : Type 0} (keywords : Keywords K R) : Type 0 where
  pub laws : EachKeeps keywords
  pub never : NeverTold keywords

-- No keyword of these numbers is told what others span.
abbrev pub AreUntold : {K R : Type 0} → Keywords K R → Nodes K → ℕ → Type 0
AreUntold keywords nodes count = (i : ℕ) → i < count → All (λ m. keywords.is_told m ≡ false) (node_words (nodes.entries i))

module _ {K R : Type 0} (keywords : Keywords K R) (matcher : Matcher) (nodes : Nodes K) (subject_of : Place → Subject) (c : Completion) where
  -- ---- whether a number holds at a place, given the answers of its edges

  -- Whether a keyword or a reference holds.
  abbrev pub form_holds : Place → (NodeEdge → Below → Bool) → NodeForm K → Bool
  form_holds p answers (node_keyword m es) = keywords.holds m (subject_of p) (matching matcher c) (node_asked keywords matcher nodes subject_of true es answers)
  form_holds p answers (node_reference e) = answers e here

  -- Whether a number holds.
  abbrev pub node_holds : ℕ → Place → (NodeEdge → Below → Bool) → Bool
  node_holds i p answers = elim (nodes.entries i) [ node_always ↦ true | node_never ↦ false | node_these xs ↦ list_all (λ x. form_holds p answers x.form) xs ]

  -- ---- the largest set of pairs of a number and a place, each of which holds, given that exactly
  -- the pairs of the set hold

  -- A set of pairs of a number and a place.
  abbrev pub NodePairs : Type 0
  NodePairs = ℕ → Place → Bool

  -- Each pair of the set holds, given that exactly the pairs of the set hold.
  abbrev pub IsNodeSolution : ℕ → NodePairs → Type 0
  IsNodeSolution count accepts = (i : ℕ) (p : Place) → i < count → accepts i p ≡ true → node_holds i p (λ e b. accepts e.node (place_below p b)) ≡ true

  -- The pair is in the largest solution, which means that some solution contains it.
  abbrev pub NodeAcceptsGreatest : ℕ → ℕ → Place → Type 0
  NodeAcceptsGreatest count i p = (accepts : NodePairs) × IsNodeSolution count accepts × (accepts i p ≡ true)

-- At every sufficient depth, what numbers say at a place with no pair in progress is the greatest
-- solution.
abbrev pub NodesSayGreatest : {K R : Type 0} → Keywords K R → Type 0
NodesSayGreatest {K} keywords = EachKeeps keywords → (matcher : Matcher) (nodes : Nodes K) (count : ℕ) → Ranked nodes count → AreMonotone keywords nodes count
    → (instance : Data) (c : Completion) (i : ℕ) (path : Text) (p : Place) → i < count → (n : ℕ) → left nodes count i (subject_in instance p) [] < n
    → ((guarded_within yes_outcome (node_outcome keywords matcher nodes (subject_in instance) c) n i path p []).verdict ≡ true)
    ↔ NodeAcceptsGreatest keywords matcher nodes (subject_in instance) c count i p

-- The answers of the runs of nodes, for every depth of questions that is sufficient.
use Rattle.std.specs.Prelude.{◌≡◌, ◌<◌, ◌≤◌, ◌==◌, ℕ, suc, Bool, true, false, List, ◌∷◌, Some, All, Contains, map, option_map}
use Rattle.std.specs.List.{list_any}
use Rattle.serde_json.specs.Data.{Data}
use Rattle.serde_json.specs.Written.{has_float}
use Rattle.theory_definitions.specs.Instance.{Place, Subject, Text, subject_at}
use Rattle.theory_definitions.specs.Reports.{Outcome, accepted, spans_nothing}
use Rattle.theory_definitions.specs.Matching.{Completion, Matcher, Pair, assumed, completed}
use Rattle.theory_definitions.specs.Keywords.{Below, Keywords, Mode, Question, here}
use Rattle.theory_definitions.specs.Unfinished.{or_no}
use Rattle.theory_definitions.specs.Guarded.{Children, NodeEdge, NodeForm, NodePart, Nodes, across, guarded_within, node_asked, node_child, node_edges, node_keyword, node_outcome, node_part, node_these, yes_outcome}
use Rattle.theory_meaning.specs.Fractions.{AreWhole}
use Rattle.theory_meaning.specs.Numbered.{left, subject_in}
use Rattle.theory_meaning.specs.Untold.{parts_alone}
use Rattle.schema_reports.specs.ReportViews.{BorrowsItsPlace}
use Rattle.schema_run_context.specs.Matches.{Settling}
use Rattle.schema_traits.specs.EdgeViews.{edge_of}
use Rattle.schema_traits.specs.KeywordViews.{reply_of}
use Rattle.schema_traits.specs.FaultViews.{errors_in}
use Rattle.schema_run_steps.specs.ReplyModes.{reply_by}
use Rattle.schema_run_steps.specs.declared.question.NamedKeyword.{NamedKeyword}
use Rattle.schema_traits.specs.declared.keyword.Reply as code

-- how a run is read: whether texts are compared, the root value, the matcher with the outcomes of
-- unfinished matches, and how deep questions go
pub record Reading : Type 0 where
  pub texts : Bool
  pub root : Data
  pub matcher : Matcher
  pub completion : Completion
  pub depth : ℕ

-- texts are compared only if neither the root value nor a keyword of the table contains a fraction
pub record TellsAll {K : Type 0} (texts : Bool) (root : Data) (is_whole : K → Bool) (nodes : Nodes K) (count : ℕ) : Type 0 where
  pub keywords : texts ≡ true → AreWhole is_whole nodes count
  pub instance : texts ≡ true → has_float root ≡ false

module _ {K : Type 0} (nodes : Nodes K) where
  -- all of these parts are in the node's plan
  abbrev pub HasParts : ℕ → List (NodePart K) → Type 0
  HasParts i ys = (xs : List (NodePart K)) × (nodes.entries i ≡ node_these xs) × ((y : NodePart K) → Contains ys y → Contains xs y)

  -- one part of the node's plan has this form
  abbrev pub HasForm : ℕ → NodeForm K → Type 0
  HasForm i form = (xs : List (NodePart K)) × (nodes.entries i ≡ node_these xs) × (y : NodePart K) × Contains xs y × (y.form ≡ form)

  -- these children have edges of the node only
  abbrev pub HasChildren : ℕ → Children → Type 0
  HasChildren i es = (q : ℕ) (e : NodeEdge) → node_child es q ≡ Some e → Contains (node_edges (nodes.entries i)) e

-- a keyword with its children, as the form of an entry
abbrev pub form_at_work : {C K : Type 0} → (C → K) → NamedKeyword C → NodeForm K
form_at_work shape k = node_keyword (shape k.keyword.now) (map (option_map edge_of) k.children.now)

-- the outcomes of nodes, edges, children and parts in a reading
module _ {K R : Type 0} (words : Bool → Keywords K R) (nodes : Nodes K) (x : Reading) where
  abbrev pub node_says : ℕ → Text → Place → (NodeEdge → Below → Outcome) → Outcome
  node_says = node_outcome (words x.texts) x.matcher nodes (subject_in x.root) x.completion

  abbrev pub deep : ℕ → Text → Place → List ℕ → Outcome
  deep = guarded_within yes_outcome node_says x.depth

  abbrev pub edge_says : Text → Place → List ℕ → NodeEdge → Below → Outcome
  edge_says = across yes_outcome node_says deep

  abbrev pub child_says : Text → Place → List ℕ → Children → Question → Outcome
  child_says path p busy es = node_asked (words x.texts) x.matcher nodes (subject_in x.root) accepted es (edge_says path p busy)

  abbrev pub form_says : ℕ → Text → Place → List ℕ → Text → NodeForm K → Outcome
  form_says i path p busy = node_part (words x.texts) x.matcher nodes (subject_in x.root) x.completion i path p (edge_says path p busy) spans_nothing

  abbrev pub parts_say : ℕ → Text → Place → List ℕ → List (NodePart K) → Outcome
  parts_say i path p busy = parts_alone (words x.texts) x.matcher nodes (subject_in x.root) x.completion i path p (edge_says path p busy)

-- a reply is the one that an outcome yields in a mode, and its errors borrow their places
pub record Replies (x : Reading) (mode : Mode) (r : code.Reply) (o : Outcome) : Type 0 where
  pub same : reply_of x.texts r ≡ reply_by mode o
  pub borrows : All (BorrowsItsPlace x.root) (errors_in r)

-- the depth of questions that an edge requires
abbrev pub edge_needs : {K : Type 0} → Nodes K → ℕ → NodeEdge → Subject → List ℕ → ℕ
edge_needs nodes count e s busy = elim e.guarded [
  | false ↦ suc (left nodes count e.node s busy)
  | true ↦ elim (list_any (λ i. i == e.node) busy) [ true ↦ 0 | false ↦ suc (left nodes count e.node s (e.node ∷ busy)) ]
]

-- a reading in which the subject is at the place, and matches have the outcomes that the matcher
-- and the assumptions decide
pub record Reads {K : Type 0} (is_whole : K → Bool) (nodes : Nodes K) (count : ℕ) (w : Settling) (p : Place) (s : Subject) (x : Reading) : Type 0 where
  pub stands : subject_at x.root p ≡ Some s
  pub tells : TellsAll x.texts x.root is_whole nodes count
  pub matcher : x.matcher ≡ w.matcher
  pub completes : (a : Pair) → completed x.completion a ≡ or_no (assumed w.assumptions a)

-- ---- the replies of a run for a subject at a place, in every reading that has it there

module _ {K R : Type 0} (words : Bool → Keywords K R) (is_whole : K → Bool) (nodes : Nodes K) (count : ℕ) (w : Settling) (mode : Mode) (path : Text) (p : Place) (busy : List ℕ) (s : Subject) where
  abbrev pub NodeReplies : ℕ → code.Reply → Type 0
  NodeReplies i r = (x : Reading) → Reads is_whole nodes count w p s x → left nodes count i s busy < x.depth → Replies x mode r (deep words nodes x i path p busy)

  abbrev pub EdgeReplies : NodeEdge → code.Reply → Type 0
  EdgeReplies e r = (x : Reading) → Reads is_whole nodes count w p s x → edge_needs nodes count e s busy ≤ x.depth → Replies x mode r (edge_says words nodes x path p busy e here)

  abbrev pub ChildReplies : ℕ → Children → Question → code.Reply → Type 0
  ChildReplies i es q r = (x : Reading) → Reads is_whole nodes count w p s x → left nodes count i s busy ≤ x.depth → Replies x mode r (child_says words nodes x path p busy es q)

  abbrev pub FormReplies : ℕ → Text → NodeForm K → code.Reply → Type 0
  FormReplies i name form r = (x : Reading) → Reads is_whole nodes count w p s x → left nodes count i s busy ≤ x.depth → Replies x mode r (form_says words nodes x i path p busy name form)

  abbrev pub PartsReply : ℕ → List (NodePart K) → code.Reply → Type 0
  PartsReply i xs r = (x : Reading) → Reads is_whole nodes count w p s x → left nodes count i s busy ≤ x.depth → Replies x mode r (parts_say words nodes x i path p busy xs)

-- Numbers that stand for keys, a measure that decreases with each question, and the laws that
-- numbers say what unfolding says.
use Rattle.std.specs.List.{list_any}
use Rattle.std.specs.Prelude.{All, Bool, Contains, Decides, List, None, Option, Some, [], false, if◌then◌else◌, length, max, slice_get, suc, true, unwrap_or, zero, ℕ, ◌*◌, ◌+◌, ◌<◌, ◌==◌, ◌∷◌, ◌≡◌, ◌≤◌}
use Rattle.serde_json.specs.Data.{Data, Members, depth, null}
use Rattle.theory_definitions.specs.Instance.{Place, Subject, Text, a_name, a_value, subject_at}
use Rattle.theory_definitions.specs.Reports.{Error, Outcome, Unit_, report_of}
use Rattle.theory_definitions.specs.Drafts.{Draft, SchemaPlace, Vocabularies, at_path}
use Rattle.theory_definitions.specs.Matching.{Assumptions, Completion, Matcher, completion_of}
use Rattle.theory_definitions.specs.Making.{Request, Table, compile, refer, followed}
use Rattle.theory_definitions.specs.Keywords.{Keywords}
use Rattle.theory_definitions.specs.Parts.{Parts}
use Rattle.theory_definitions.specs.Plan.{Edge, Form, Key, Part, Plan, absolute_of, always, child, height, keyword, never, plan, reference, reference_edge, schema_at, these}
use Rattle.theory_definitions.specs.Meaning.{subject, unfold_}
use Rattle.theory_definitions.specs.Units.{annotations_of}
use Rattle.theory_meaning.specs.Returns.{Return}
use Rattle.theory_definitions.specs.Cover.{evaluate, is_valid, plain}
use Rattle.theory_definitions.specs.Laws.{EachKeeps}
use Rattle.theory_meaning.specs.Reach.{IsReach, deep_enough}
use Rattle.theory_meaning.specs.Paths.{edges}
use Rattle.theory_definitions.specs.Guarded.{NodeEdge, NodeForm, NodePart, NodePlan, Nodes, guarded_node, guarded_sense, guarded_units, guarded_within, node_always, node_child, node_edges, node_keyword, node_never, node_outcome, node_reference, node_these, yes_outcome, yes_run}
use Rattle.theory_meaning.specs.Headline.{ErrorsSay, EvaluateAnswer, FirstSays, Guardedly, IsValidAnswer, IterErrorsAnswer, ValidateAnswer, VerdictSays}

-- ---- numbers that stand for keys

-- The key of each number; there is none for a number that is reserved, and only marked.
abbrev pub Numbers : Type 0 → Type 0
Numbers S = List (Option (Key S))

-- The number stands for this key.
abbrev pub IsNumber : {S : Type 0} → Numbers S → ℕ → Key S → Type 0
IsNumber keys i k = slice_get keys i ≡ Some (Some k)

module _ {S K R : Type 0} (w : Parts S K R) (keys : Numbers S) (nodes : Nodes K) where
  -- The edge leads to the number of the child's key, and adds the same to the evaluation path.
  abbrev pub SameEdge : Option NodeEdge → Option (Edge S) → Type 0
  SameEdge None None = Unit {0}
  SameEdge (Some e) (Some edge) = IsNumber keys e.node edge.key × (e.path ≡ edge.path)
  SameEdge None (Some edge) = ⊥
  SameEdge (Some e) None = ⊥

  -- The same keyword with the same children, or the same reference.
  abbrev pub SameForm : Key S → Text → NodeForm K → Form K → Type 0
  SameForm k name (node_keyword m es) (keyword m' requests absorbed) = (m ≡ m') × ((i : ℕ) → SameEdge (node_child es i) (child w k name requests i))
  SameForm k name (node_reference e) (reference kind text) = SameEdge (Some e) (reference_edge w k name kind text)
  SameForm k name (node_keyword m es) (reference kind text) = ⊥
  SameForm k name (node_reference e) (keyword m' requests absorbed) = ⊥

  -- The same entry of a plan.
  pub record SamePart (k : Key S) (x : NodePart K) (y : Part K) : Type 0 where
    pub name : x.name ≡ y.name
    pub priority : x.priority ≡ y.priority
    pub is_leaf : x.is_leaf ≡ y.is_leaf
    pub form : SameForm k y.name x.form y.form

  -- The same entries in the same order.
  abbrev pub SameParts : Key S → List (NodePart K) → List (Part K) → Type 0
  SameParts k [] [] = Unit {0}
  SameParts k (x ∷ xs) (y ∷ ys) = SamePart k x y × SameParts k xs ys
  SameParts k [] (y ∷ ys) = ⊥
  SameParts k (x ∷ xs) [] = ⊥

  -- The same plan.
  abbrev pub SamePlan : Key S → NodePlan K → Plan K → Type 0
  SamePlan k node_always always = Unit {0}
  SamePlan k node_never never = Unit {0}
  SamePlan k (node_these xs) (these ys) = SameParts k xs ys
  SamePlan k _ _ = ⊥

  -- The number stands for the key: its entries are the key's plan, with numbers in place of the
  -- children's keys, and it has the key's location, absolute locations and annotations.
  pub record StandsFor (i : ℕ) (k : Key S) : Type 0 where
    pub entries : SamePlan k (nodes.entries i) (plan w k)
    pub location : nodes.location i ≡ k.location
    pub absolute : (location : Text) → nodes.absolute i location ≡ absolute_of w k location
    pub annotations : nodes.annotations i ≡ annotations_of w k

  -- Each number stands for its key, and no key has two numbers.
  pub record AreNumbered : Type 0 where
    pub stands : (i : ℕ) (k : Key S) → IsNumber keys i k → StandsFor i k
    pub once : (i j : ℕ) (k : Key S) → IsNumber keys i k → IsNumber keys j k → i ≡ j
    -- The edges of a number that lead to the same number are all guarded, or none is.
    pub guards : (i : ℕ) (k : Key S) → IsNumber keys i k → (a b : NodeEdge) → Contains (node_edges (nodes.entries i)) a → Contains (node_edges (nodes.entries i)) b
        → a.node ≡ b.node → a.guarded ≡ b.guarded

-- ---- a measure that decreases with each question

-- The number of numbers below a bound that are not in progress.
abbrev pub free : ℕ → List ℕ → ℕ
free zero busy = 0
free (suc n) busy = if list_any (λ i. i == n) busy then free n busy else suc (free n busy)

-- A bound on how many steps lie below a subject.
abbrev pub subject_height : Subject → ℕ
subject_height (a_value d) = suc (depth d)
subject_height (a_name name) = 0

module _ {K : Type 0} (nodes : Nodes K) (count : ℕ) where
  -- An edge leads to a number of the table, and an unguarded edge to one of lower rank.
  abbrev pub Ranked : Type 0
  Ranked = (i : ℕ) → i < count → (e : NodeEdge) → Contains (node_edges (nodes.entries i)) e → (e.node < count) × (e.guarded ≡ false → nodes.rank e.node < nodes.rank i)

  -- The highest rank of the numbers below a bound.
  abbrev pub highest : ℕ → ℕ
  highest zero = 0
  highest (suc n) = max (nodes.rank n) (highest n)

  -- The measure: the height of the place, the count of numbers not in progress there, and the rank,
  -- the first with the greatest weight.
  unfoldable pub left : ℕ → Subject → List ℕ → ℕ
  left i s busy = (subject_height s * (count + 1) + free count busy) * (highest count + 1) + nodes.rank i

-- ---- laws of the parts

-- Subschemas lie strictly inside their schema.
abbrev pub SubschemasInside : {S K R : Type 0} → Parts S K R → Type 0
SubschemasInside {S} w = (k : Key S) (edge : Edge S) → Contains (edges w k) edge → edge.is_reference ≡ false → height w edge.key < height w k

-- If the resolver has a value at a path below a place, then that value is at the path in the value
-- of the place.
abbrev pub ValuesInside : {S K R : Type 0} → Parts S K R → Type 0
ValuesInside w = (p : SchemaPlace) (path : Place) (v : Data) → w.resolver.value (at_path p path) ≡ Some v → subject_at (schema_at w p) path ≡ Some (a_value v)

-- A request for a subschema is for one strictly below the object.
abbrev pub IsBelow : Request → Type 0
IsBelow (compile []) = ⊥
IsBelow (compile (s ∷ path)) = Unit {0}
IsBelow (refer text) = Unit {0}

-- Every maker of the table requests only such subschemas.
abbrev pub MakersAskBelow : {K : Type 0} → Table K → Type 0
MakersAskBelow table = (custom : Bool) (name : Text) (whole : Members) (draft : Draft) (vocabularies : Vocabularies) (formats : Bool) (is_self : Text → Bool)
    → All IsBelow (followed is_self (table.script custom name whole draft vocabularies formats)).requests

-- ---- the statements

-- The value or the name at a place of an instance, or `null` if there is none.
abbrev pub subject_in : Data → Place → Subject
subject_in instance p = unwrap_or (subject_at instance p) (a_value null)

module _ {K R : Type 0} (keywords : Keywords K R) where
  -- The outcome and the units of a run are those that its nodes have under the run's completion.
  abbrev pub RunsSayOutcomes : Type 0
  RunsSayOutcomes = (matcher : Matcher) (nodes : Nodes K) (subject_of : Place → Subject) (as' : Assumptions) (n i : ℕ) (path : Text) (p : Place) (busy : List ℕ)
      → ((guarded_within (yes_run nodes) (guarded_node keywords matcher nodes subject_of as') n i path p busy).outcome tt ≡ guarded_within yes_outcome (node_outcome keywords matcher nodes subject_of (completion_of as')) n i path p busy)
      × ((guarded_within (yes_run nodes) (guarded_node keywords matcher nodes subject_of as') n i path p busy).units tt ≡ guarded_units keywords matcher nodes subject_of (completion_of as') n i path p busy)

  -- Every depth beyond the measure yields the same run, whether questions return or not: the same
  -- outcome, the same units, and the same matches in each mode.
  abbrev pub GuardedRunsSettle : Type 0
  GuardedRunsSettle = EachKeeps keywords → (matcher : Matcher) (nodes : Nodes K) (count : ℕ) → Ranked nodes count → (instance : Data) (as' : Assumptions) (i : ℕ) (path : Text) (p : Place) (busy : List ℕ) → i < count
      → (m n : ℕ) → left nodes count i (subject_in instance p) busy < m → left nodes count i (subject_in instance p) busy < n
      → guarded_within (yes_run nodes) (guarded_node keywords matcher nodes (subject_in instance) as') m i path p busy ≡ guarded_within (yes_run nodes) (guarded_node keywords matcher nodes (subject_in instance) as') n i path p busy

  -- Every depth beyond the measure yields the same sense.
  abbrev pub GuardedSenseSettles : Type 0
  GuardedSenseSettles = EachKeeps keywords → (matcher : Matcher) (nodes : Nodes K) (count : ℕ) → Ranked nodes count → (instance : Data) (i : ℕ) → i < count
      → (m n : ℕ) → left nodes count i (a_value instance) [] < m → left nodes count i (a_value instance) [] < n
      → guarded_sense keywords matcher nodes (subject_in instance) m i ≡ guarded_sense keywords matcher nodes (subject_in instance) n i

module _ {S K R : Type 0} (w : Parts S K R) (instance : Data) (nodes : Nodes K) (count : ℕ) where
  -- What a number says, with questions at most n deep.
  abbrev pub guarded_says : Completion → ℕ → ℕ → Text → Place → List ℕ → Outcome
  guarded_says c = guarded_within yes_outcome (node_outcome w.keywords w.matcher nodes (subject w instance) c)

  -- Every depth beyond the measure yields the same outcome, whether questions return or not.
  abbrev pub GuardedSettles : Type 0
  GuardedSettles = EachKeeps w.keywords → Ranked nodes count → (c : Completion) (i : ℕ) (path : Text) (p : Place) (busy : List ℕ) → i < count
      → (m n : ℕ) → left nodes count i (subject w instance p) busy < m → left nodes count i (subject w instance p) busy < n
      → guarded_says c m i path p busy ≡ guarded_says c n i path p busy

-- If no question returns, a number says what unfolding says of its key.
abbrev pub NumbersSayUnfolding : {S K R : Type 0} → Parts S K R → Numbers S → Nodes K → Type 0
NumbersSayUnfolding {S} w keys nodes = EachKeeps w.keywords → ValuesInside w → MakersAskBelow w.table → ((s : S) → w.resolver.same_state s s ≡ true) → AreNumbered w keys nodes → Ranked nodes (length keys)
    → (instance : Data) (c : Completion) (i : ℕ) (k : Key S) (path : Text) (p : Place) → IsNumber keys i k
    → ¬ (Return w instance (record { key = k; path = path; place = p }))
    → (m n : ℕ) → left nodes (length keys) i (subject w instance p) [] < m → left nodes (length keys) i (subject w instance p) [] ≤ n
    → guarded_says w instance nodes (length keys) c m i path p [] ≡ unfold_ w instance c n k path p

-- If no question returns, the sense of a number is that of its key: the outcome under each
-- completion, and the matches that each call's run meets under given assumptions.
abbrev pub NumbersMeanUnfolding : {S K R : Type 0} → Parts S K R → Numbers S → Nodes K → Type 0
NumbersMeanUnfolding {S} w keys nodes = EachKeeps w.keywords → ValuesInside w → MakersAskBelow w.table → ((a b : S) → Decides (w.resolver.same_state a b) (a ≡ b)) → AreNumbered w keys nodes → Ranked nodes (length keys)
    → (instance : Data) (i : ℕ) (k : Key S) → IsNumber keys i k → ¬ (Return w instance (record { key = k; path = []; place = [] }))
    → (m n : ℕ) → left nodes (length keys) i (subject w instance []) [] < m → left nodes (length keys) i (subject w instance []) [] ≤ n
    → guarded_sense w.keywords w.matcher nodes (subject w instance) m i ≡ plain w instance n k

-- The same at the depth of the plain meaning: the number of reached targets times the number of
-- places, plus one.
abbrev pub NumbersMeanPlain : {S K R : Type 0} → Parts S K R → Numbers S → Nodes K → Type 0
NumbersMeanPlain {S} w keys nodes = EachKeeps w.keywords → ValuesInside w → MakersAskBelow w.table → ((a b : S) → Decides (w.resolver.same_state a b) (a ≡ b)) → AreNumbered w keys nodes → Ranked nodes (length keys)
    → (instance : Data) (i : ℕ) (k : Key S) → IsNumber keys i k → ¬ (Return w instance (record { key = k; path = []; place = [] }))
    → (reached : List (Key S)) → IsReach w k reached
    → (m n : ℕ) → left nodes (length keys) i (subject w instance []) [] < m → deep_enough w reached instance ≤ n
    → guarded_sense w.keywords w.matcher nodes (subject w instance) m i ≡ plain w instance n k

-- So if the answer of a call is right for its nodes, in the terms of the headline, then it is right
-- for the plain meaning.
abbrev pub GuardedIsPlain : {S K R : Type 0} → Parts S K R → Numbers S → Nodes K → Type 0
GuardedIsPlain {S} w keys nodes = EachKeeps w.keywords → ValuesInside w → MakersAskBelow w.table → ((a b : S) → Decides (w.resolver.same_state a b) (a ≡ b)) → AreNumbered w keys nodes → Ranked nodes (length keys)
    → (instance : Data) (i : ℕ) (root : Key S) → IsNumber keys i root → (limit : ℕ)
    → ((valid : Bool) → Guardedly w.keywords w.matcher nodes (subject w instance) i (λ v. VerdictSays v limit is_valid valid) → IsValidAnswer w root instance limit valid)
    × ((first : Option Error) → Guardedly w.keywords w.matcher nodes (subject w instance) i (λ v. FirstSays v limit first) → ValidateAnswer w root instance limit first)
    × ((errors : List Error) → Guardedly w.keywords w.matcher nodes (subject w instance) i (λ v. ErrorsSay v limit errors) → IterErrorsAnswer w root instance limit errors)
    × ((u : Unit_) → Guardedly w.keywords w.matcher nodes (subject w instance) i (λ v. VerdictSays v limit evaluate (report_of u).valid) → EvaluateAnswer w root instance limit u)

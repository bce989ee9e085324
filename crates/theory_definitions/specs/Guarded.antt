-- What numbered nodes say, if a node that is asked again at a place where it is still in progress
-- answers yes.
use Rattle.std.specs.List.{list_any}
use Rattle.std.specs.Prelude.{Bool, List, None, Option, Some, [], false, filter_map, flat_map, not, option_and_then, slice_get, suc, true, if◌then◌else◌, zero, ℕ, ◌&&◌, ◌++◌, ◌==◌, ◌||◌, ◌∷◌, ◌≡◌, ◌≤◌}
use Rattle.serde_json.specs.Data.{Data}
use Rattle.theory_definitions.specs.Instance.{Place, Step, Subject, Text}
use Rattle.theory_definitions.specs.Reports.{Outcome, Unit_, accepted, spans_nothing}
use Rattle.theory_definitions.specs.Matching.{Assumptions, Completion, Matcher, beside, completion_of, matching}
use Rattle.theory_definitions.specs.Keywords.{Below, Keywords, Marked, Mode, Question, a_child, a_reservation, down, here}
use Rattle.theory_definitions.specs.Meaning.{Where, both, either_spans, false_outcome, kept, keyword_outcome, told_of, place_below, reference_outcome}
use Rattle.theory_definitions.specs.Units.{Entry, PartUnits, Valued, false_unit, keyword_units, no_unit, plan_unit, reference_units, true_unit}
use Rattle.theory_definitions.specs.Runs.{Looked, Met, Run, keyword_met, no_run, node_met, plan_spanning, spanning_met}
use Rattle.theory_definitions.specs.Cover.{Sense, mode_of}

-- An edge to a node: its number, what the edge adds to the evaluation path, and whether it is
-- guarded.
pub record NodeEdge : Type 0 where
  pub node : ℕ
  pub path : Text
  pub guarded : Bool

-- The edges that a keyword's maker obtained, one for each request. There is none for a number that
-- is only marked, and none for a reference to the object that contains it.
abbrev pub Children : Type 0
Children = List (Option NodeEdge)

-- The edge that a maker obtained for the request with this number, if there is one.
abbrev pub node_child : Children → ℕ → Option NodeEdge
node_child es i = option_and_then (λ o. o) (slice_get es i)

-- Both edges are guarded, or neither is.
abbrev pub same_guard : NodeEdge → NodeEdge → Bool
same_guard a b = elim a.guarded [ true ↦ b.guarded | false ↦ not b.guarded ]

-- Two marked children are the same if they lead to the same node and are guarded alike, so that
-- they have the same answers.
abbrev pub same_node : Option NodeEdge → Option NodeEdge → Bool
same_node (Some a) (Some b) = (a.node == b.node) && same_guard a b
same_node _ _ = false

-- Two marks of a keyword have the same key.
abbrev pub same_edge : Children → Marked → Marked → Bool
same_edge es (a_child i) (a_child j) = (i == j) || same_node (node_child es i) (node_child es j)
same_edge es (a_reservation i) (a_reservation j) = i == j
same_edge es _ _ = false

-- A keyword with its children, or a reference with its edge.
pub data NodeForm (K : Type 0) : Type 0 where
  node_keyword : K → Children → NodeForm K
  node_reference : NodeEdge → NodeForm K

-- An entry of a node's plan.
pub record NodePart (K : Type 0) : Type 0 where
  pub name : Text
  pub priority : ℕ
  pub is_leaf : Bool
  pub form : NodeForm K

-- The plan of a node: it always accepts, it never accepts, or it accepts if all these entries hold.
pub data NodePlan (K : Type 0) : Type 0 where
  node_always node_never : NodePlan K
  node_these : List (NodePart K) → NodePlan K

-- The numbered nodes: for each number the plan, the location, the absolute location of each
-- location, the annotations and the rank.
pub record Nodes (K : Type 0) : Type 0 where
  pub entries : ℕ → NodePlan K
  pub location : ℕ → Text
  pub absolute : ℕ → Text → Option Text
  pub annotations : ℕ → Option Data
  pub rank : ℕ → ℕ

-- The edges of a keyword or a reference.
abbrev pub form_edges : {K : Type 0} → NodeForm K → List NodeEdge
form_edges (node_keyword m es) = filter_map (λ o. o) es
form_edges (node_reference e) = e ∷ []

-- The edges of a node.
abbrev pub node_edges : {K : Type 0} → NodePlan K → List NodeEdge
node_edges node_always = []
node_edges node_never = []
node_edges (node_these xs) = flat_map (λ x. form_edges x.form) xs

-- The nodes in progress at the place of a question; there are none at a place below.
abbrev pub progress_below : List ℕ → Below → List ℕ
progress_below busy here = busy
progress_below busy (down s) = []

-- ---- the answer of a pair in progress, by its node, evaluation path and place: yes without
-- errors, an empty unit in place of the node's own, and no match is met

-- Valid, without errors.
abbrev pub yes_outcome : ℕ → Text → Place → Outcome
yes_outcome i path p = accepted

-- A valid unit with nothing in it, at the location of the node.
abbrev pub yes_unit : {K : Type 0} → Nodes K → ℕ → Text → Place → Unit_
yes_unit nodes i path p = true_unit (record { place = p; path = path; location = nodes.location i; absolute = nodes.absolute i })

-- A run that accepts and meets nothing.
abbrev pub yes_run : {K : Type 0} → Nodes K → ℕ → Text → Place → Run
yes_run nodes i path p = record { outcome = λ t. accepted; units = λ t. yes_unit nodes i path p; met = λ m. []; spanning = [] }

-- An accepting outcome with a valid unit.
abbrev pub yes_valued : {K : Type 0} → Nodes K → ℕ → Text → Place → Valued
yes_valued nodes i path p = record { outcome = accepted; units = yes_unit nodes i path p }

-- `X` is the type of an answer: an outcome, units, or a whole run. `yes` is the answer of a pair in
-- progress.
module _ {X : Type 0} (yes : ℕ → Text → Place → X) (node : ℕ → Text → Place → (NodeEdge → Below → X) → X) where
  -- The answer of an edge; it is `yes` if the edge is guarded and its pair is in progress.
  abbrev pub across : (ℕ → Text → Place → List ℕ → X) → Text → Place → List ℕ → NodeEdge → Below → X
  across go path p busy e below = elim e.guarded [
    | false ↦ go e.node (path ++ e.path) (place_below p below) (progress_below busy below)
    | true ↦ elim (list_any (λ i. i == e.node) (progress_below busy below)) [
      | true ↦ yes e.node (path ++ e.path) (place_below p below)
      | false ↦ go e.node (path ++ e.path) (place_below p below) (e.node ∷ progress_below busy below)
    ]
  ]

  -- The answer of a node, with questions at most n deep.
  abbrev pub guarded_within : ℕ → ℕ → Text → Place → List ℕ → X
  guarded_within zero i path p busy = yes i path p
  guarded_within (suc n) i path p busy = node i path p (across (guarded_within n) path p busy)

-- Whether an entry of a node is told what the others span.
abbrev pub node_told : {K R : Type 0} → Keywords K R → NodeForm K → Bool
node_told keywords (node_keyword m es) = keywords.is_told m
node_told keywords (node_reference e) = false

module _ {K R : Type 0} (keywords : Keywords K R) (matcher : Matcher) (nodes : Nodes K) (subject_of : Place → Subject) where
  -- The context of a node at an evaluation path and a place.
  abbrev pub node_at : ℕ → Text → Place → Where
  node_at i path p = record { place = p; path = path; location = nodes.location i; absolute = nodes.absolute i }

  -- The answer to a question of a keyword; `none` if the keyword has no such child.
  abbrev pub node_asked : {X : Type 0} → X → Children → (NodeEdge → Below → X) → Question → X
  node_asked none es go q = elim (node_child es q.child) [ None ↦ none | Some e ↦ go e q.below ]

  module _ (c : Completion) where
    -- The outcome of a keyword or a reference of a node, if the others span these steps.
    abbrev pub node_part : ℕ → Text → Place → (NodeEdge → Below → Outcome) → (Step → Bool) → Text → NodeForm K → Outcome
    node_part i path p go others name (node_keyword m es) = keyword_outcome keywords (node_at i path p) name m (subject_of p) (beside others (matching matcher c)) (node_asked accepted es go)
    node_part i path p go others name (node_reference e) = reference_outcome (node_at i path p) name (go e here)

    -- What the entries that are not told span together.
    abbrev pub node_others : ℕ → Text → Place → (NodeEdge → Below → Outcome) → List (NodePart K) → Step → Bool
    node_others i path p go [] = spans_nothing
    node_others i path p go (x ∷ xs) = either_spans (if node_told keywords x.form then spans_nothing else (node_part i path p go spans_nothing x.name x.form).spans) (node_others i path p go xs)

    -- The outcome of all these keywords and references together.
    abbrev pub node_parts : ℕ → Text → Place → (NodeEdge → Below → Outcome) → (Step → Bool) → List (NodePart K) → Outcome
    node_parts i path p go others [] = accepted
    node_parts i path p go others (x ∷ xs) = both (node_part i path p go (told_of others (node_told keywords x.form)) x.name x.form) (node_parts i path p go others xs)

    -- The outcome of a node, given the outcomes of its edges.
    abbrev pub node_outcome : ℕ → Text → Place → (NodeEdge → Below → Outcome) → Outcome
    node_outcome i path p go = elim (nodes.entries i) [ node_always ↦ accepted | node_never ↦ false_outcome keywords.texts (node_at i path p) (subject_of p) | node_these xs ↦ kept (node_parts i path p go (node_others i path p go xs) xs) ]

    -- What a node says at a place while these nodes are in progress there: the outcome that every
    -- depth yields from some depth on.
    abbrev pub Guarded : ℕ → Text → Place → List ℕ → Outcome → Type 0
    Guarded i path p busy o = (n : ℕ) × ((m : ℕ) → n ≤ m → guarded_within yes_outcome node_outcome m i path p busy ≡ o)

    -- ---- the units of a node

    -- The units of a keyword or a reference of a node, if the others span these steps.
    abbrev pub node_part_units : ℕ → Text → Place → (NodeEdge → Below → Unit_) → (Step → Bool) → Text → NodeForm K → PartUnits
    node_part_units i path p go others name (node_keyword m es) = keyword_units keywords (node_at i path p) name m (subject_of p) (beside others (matching matcher c)) (node_asked no_unit es go)
    node_part_units i path p go others name (node_reference e) = reference_units (node_at i path p) name (go e here)

    -- The entries of a node with their units.
    abbrev pub node_entries_of : ℕ → Text → Place → (NodeEdge → Below → Unit_) → (Step → Bool) → List (NodePart K) → List Entry
    node_entries_of i path p go others [] = []
    node_entries_of i path p go others (x ∷ xs) = record { priority = x.priority; units = node_part_units i path p go (told_of others (node_told keywords x.form)) x.name x.form } ∷ node_entries_of i path p go others xs

    -- The unit of a node, given the outcomes and the units of its edges.
    abbrev pub node_unit : ℕ → Text → Place → (NodeEdge → Below → Outcome) → (NodeEdge → Below → Unit_) → Unit_
    node_unit i path p says go = elim (nodes.entries i) [ node_always ↦ true_unit (node_at i path p) | node_never ↦ false_unit keywords.texts (node_at i path p) (subject_of p) | node_these xs ↦ plan_unit (node_at i path p) (nodes.annotations i) (node_entries_of i path p go (node_others i path p says xs) xs) ]

    -- Both together.
    abbrev pub node_valued : ℕ → Text → Place → (NodeEdge → Below → Valued) → Valued
    node_valued i path p go = record { outcome = node_outcome i path p (λ e b. (go e b).outcome); units = node_unit i path p (λ e b. (go e b).outcome) (λ e b. (go e b).units) }

    -- The unit of a node at a place while these nodes are in progress there, at a depth.
    abbrev pub guarded_units : ℕ → ℕ → Text → Place → List ℕ → Unit_
    guarded_units n i path p busy = (guarded_within (yes_valued nodes) node_valued n i path p busy).units

  -- ---- the unfinished matches that a node's run meets

  module _ (as' : Assumptions) where
    -- The unfinished matches that a keyword or a reference of a node meets.
    abbrev pub node_part_met : ℕ → Text → Place → (NodeEdge → Below → Run) → (Step → Bool) → Text → NodeForm K → Mode → List Met
    node_part_met i path p go others name (node_keyword m es) mode = keyword_met keywords matcher as' (node_at i path p) (subject_of p) (node_asked no_run es go) others (same_edge es) name m mode
    node_part_met i path p go others name (node_reference e) mode = (go e here).met mode

    -- What its run for its span meets.
    abbrev pub node_part_spanning : ℕ → Text → Place → (NodeEdge → Below → Run) → Text → NodeForm K → List Met
    node_part_spanning i path p go name (node_keyword m es) = spanning_met keywords matcher as' (node_at i path p) (subject_of p) (node_asked no_run es go) (same_edge es) name m
    node_part_spanning i path p go name (node_reference e) = (go e here).spanning

    -- The entries of a node, with what their runs meet, if the others span these steps.
    abbrev pub node_looked : ℕ → Text → Place → (NodeEdge → Below → Run) → (Step → Bool) → List (NodePart K) → List Looked
    node_looked i path p go others [] = []
    node_looked i path p go others (x ∷ xs) = record {
      is_leaf = x.is_leaf;
      is_told = node_told keywords x.form;
      holds = (node_part (completion_of as') i path p (λ e b. (go e b).outcome tt) (told_of others (node_told keywords x.form)) x.name x.form).verdict;
      met = node_part_met i path p go (told_of others (node_told keywords x.form)) x.name x.form;
      spanning = node_part_spanning i path p go x.name x.form;
    } ∷ node_looked i path p go others xs

    -- The entries of a node, with what their runs meet.
    abbrev pub node_looked_at : ℕ → Text → Place → (NodeEdge → Below → Run) → List (NodePart K) → List Looked
    node_looked_at i path p go xs = node_looked i path p go (node_others (completion_of as') i path p (λ e b. (go e b).outcome tt) xs) xs

    -- The run of a node, given the runs of its edges.
    abbrev pub guarded_node : ℕ → Text → Place → (NodeEdge → Below → Run) → Run
    guarded_node i path p go = record {
      outcome = λ t. node_outcome (completion_of as') i path p (λ e b. (go e b).outcome tt);
      units = λ t. node_unit (completion_of as') i path p (λ e b. (go e b).outcome tt) (λ e b. (go e b).units tt);
      met = λ mode. elim (nodes.entries i) [ node_always ↦ [] | node_never ↦ [] | node_these xs ↦ node_met mode (node_looked_at i path p go xs) ];
      spanning = elim (nodes.entries i) [ node_always ↦ [] | node_never ↦ [] | node_these xs ↦ plan_spanning (node_looked_at i path p go xs) ];
    }

  -- The sense of a node, which the headline uses if chains of questions return to where they were.
  abbrev pub guarded_sense : ℕ → ℕ → Sense
  guarded_sense n i = record {
    says = λ c. guarded_within yes_outcome (node_outcome c) n i [] [] [];
    meets = λ call as'. (guarded_within (yes_run nodes) (guarded_node as') n i [] [] []).met (mode_of call as');
    is_match = matcher.is_match;
  }

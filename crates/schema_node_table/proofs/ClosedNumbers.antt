-- The computed checks of closed numbers are right, and the numbers stay closed as weights are
-- found.
use Rattle.std.proofs.Common.{◌≡◌, ◌∙◌, ◌∷◌, ◌&&◌, ◌<◌, ◌≤◌, ◌==◌, ℕ, zero, suc, Bool, true, false, List, [], Option, Some, None, inl, inr, refl, sym, ap, subst, arith, true≢false, length, map, set, get_or, replicate, not}
use Rattle.std.specs.Prelude.{All, Contains, filter_map, nat_le, option_map, slice_get, unwrap_or, ◌⊎◌}
use Rattle.std.specs.List.{cons_option, list_all}
use Rattle.std.proofs.lemmas.List.Elements.{All-append, All-contains, All-cons, All-nil}
use Rattle.std.proofs.lemmas.List.Folds.{list_all-map}
use Rattle.std.proofs.lemmas.Grind.{get_or-set_at}
use Rattle.std.proofs.lemmas.List.{get_or-replicate, get_or-set_other, get_or_past, length-replicate}
use Rattle.std.proofs.lemmas.Bool.{eqb-true}
use Rattle.std.proofs.lemmas.Bool.Decides.{eqb_tells, leb_tells}
use Rattle.theory_definitions.specs.Guarded.{Children, NodeEdge, NodeForm, NodePart, NodePlan, Nodes, form_edges, node_always, node_edges, node_keyword, node_never, node_reference, node_these}
use Rattle.schema_node_table.specs.NodeTable.{NodeEntry, numbered, plan_in}
use Rattle.schema_node_table.specs.NodeViews.{entry_of, form_of, node_of, plan_of}
use Rattle.schema_node_table.specs.declared.node.Entry.{Entry}
use Rattle.schema_node_table.specs.declared.node.Node.{Node}
use Rattle.schema_node_table.specs.declared.node.NodeForm.{NodeForm as CodeForm}
use Rattle.schema_node_table.specs.ClosedNumbers.{AreClosed, ReachesNoGuard, child_closes, edge_closes, edges_in, form_closes, has_weight, plan_closes}
use Rattle.schema_node_table.proofs.RankedTable.{node_edges-shaped}

-- ---- the check of a plan holds of each of its edges

module _ (closed : ℕ → Bool) where
  -- an edge is unguarded, and leads to one that is closed
  abbrev pub Closes : NodeEdge → Type 0
  Closes e = (e.guarded ≡ false) × (closed e.node ≡ true)

  edge_tells : (e : NodeEdge) → edge_closes closed e ≡ true → Closes e
  edge_tells e = go e.guarded (closed e.node)
    where
      go : (g b : Bool) → (not g && b) ≡ true → (g ≡ false) × (b ≡ true)
      go true b h = absurd (true≢false (sym h))
      go false b h = (refl, h)

  both_hold : (a b : Bool) → (a && b) ≡ true → (a ≡ true) × (b ≡ true)
  both_hold true b h = (refl, h)
  both_hold false b h = absurd (true≢false (sym h))

  children_tell : (es : Children) → list_all (child_closes closed) es ≡ true → All Closes (filter_map (λ o. o) es)
  children_tell [] h = All-nil Closes
  children_tell (o ∷ es) h = let both = both_hold (child_closes closed o) (list_all (child_closes closed) es) h in go o both.0 (children_tell es both.1)
    where
      go : (o : Option NodeEdge) → child_closes closed o ≡ true → All Closes (filter_map (λ o. o) es) → All Closes (cons_option o (filter_map (λ o. o) es))
      go None h rest = rest
      go (Some e) h rest = All-cons Closes e (filter_map (λ o. o) es) (edge_tells e h) rest

  module _ {K : Type 0} where
    form_tells : (form : NodeForm K) → form_closes closed form ≡ true → All Closes (form_edges form)
    form_tells (node_keyword m es) h = children_tell es h
    form_tells (node_reference e) h = All-cons Closes e [] (edge_tells e h) (All-nil Closes)

    parts_tell : (xs : List (NodePart K)) → list_all (λ x. form_closes closed x.form) xs ≡ true → All Closes (node_edges (node_these xs))
    parts_tell [] h = All-nil Closes
    parts_tell (x ∷ xs) h =
        let both = both_hold (form_closes closed x.form) (list_all (λ y. form_closes closed y.form) xs) h in
        All-append Closes (form_edges x.form) (node_edges (node_these xs)) (form_tells x.form both.0) (parts_tell xs both.1)

    pub plan_tells : (plan : NodePlan K) → plan_closes closed plan ≡ true → All Closes (node_edges plan)
    plan_tells node_always h = All-nil Closes
    plan_tells node_never h = All-nil Closes
    plan_tells (node_these xs) h = parts_tell xs h

    -- the entries of a node, one by one
    pub entries_close : (es : List (Entry K)) → list_all (λ (e : Entry K). form_closes closed (form_of e.form)) es ≡ plan_closes closed (node_these (map entry_of es))
    entries_close es = sym (list_all-map (λ (x : NodePart K). form_closes closed x.form) entry_of es)

    -- the check of a node is that of its form
    pub form_closes_in : (n : Node K) (form : CodeForm K) → n.form ≡ Some form → plan_closes closed (plan_in (Some (node_of n))) ≡ plan_closes closed (plan_of form)
    form_closes_in n form is = ap (λ (o : Option (CodeForm K)). plan_closes closed (unwrap_or (option_map plan_of o) node_always)) is

-- ---- numbers that get a weight

-- a number that is closed under fewer numbers is closed under more
closes_more : (edges : ℕ → List NodeEdge) (fewer more : ℕ → Bool) → ((i : ℕ) → fewer i ≡ true → more i ≡ true) → (i : ℕ)
    → ((e : NodeEdge) → Contains (edges i) e → Closes fewer e) → (e : NodeEdge) → Contains (edges i) e → Closes more e
closes_more edges fewer more h i each e is = let at = each e is in (at.0, h e.node at.1)

-- weights that agree on which numbers have one
pub closed_same : (edges : ℕ → List NodeEdge) (old new : ℕ → Bool) → ((i : ℕ) → new i ≡ old i) → AreClosed edges old → AreClosed edges new
closed_same edges old new same are i is = closes_more edges old new (λ j h. same j ∙ h) i (are i (sym (same i) ∙ is))

-- no number has a weight
pub closed_none : (edges : ℕ → List NodeEdge) (ws : List ℕ) → ws ≡ [] → AreClosed edges (has_weight ws)
closed_none edges ws none i is = absurd (true≢false (sym is ∙ ap (λ (xs : List ℕ). has_weight xs i) none ∙ ap (λ (w : ℕ). nat_le 1 w) (get_or_past [] i 0 (omega arith))))

abbrev weight_at : List ℕ → ℕ → ℕ
weight_at ws i = get_or ws i 0

pub closed_zeros : (edges : ℕ → List NodeEdge) (ws : List ℕ) (n : ℕ) → ws ≡ replicate n 0 → AreClosed edges (has_weight ws)
closed_zeros edges ws n zeros i is = absurd (true≢false (sym is ∙ ap (λ (xs : List ℕ). has_weight xs i) zeros ∙ ap (λ (w : ℕ). nat_le 1 w) (weightless n i)))
  where
    weightless : (n i : ℕ) → weight_at (replicate n 0) i ≡ 0
    weightless n i = elim (leb_tells n i) [
      | inl past ↦ get_or_past (replicate n 0) i 0 (omega (arith, length-replicate {A = ℕ} n 0, past.1))
      | inr within ↦ get_or-replicate n i 0 0 within.1
    ]

weight-set : (ws : List ℕ) (i j w : ℕ) → i < length ws → ((j ≡ i) × (get_or (set ws i w) j 0 ≡ w)) ⊎ (get_or (set ws i w) j 0 ≡ get_or ws j 0)
weight-set ws i j w l = elim (eqb_tells j i) [
  | inl same ↦ inl (same.1, get_or-set_at ws i j w 0 same.1 l)
  | inr other ↦ inr (get_or-set_other ws i j w 0 other.1)
]

one_is_weight : (w : ℕ) → 1 ≤ w → nat_le 1 w ≡ true
one_is_weight w l = elim (leb_tells 1 w) [
  | inl some ↦ some.0
  | inr none ↦ absurd (omega (arith, none.1, l))
]

-- one more number gets a weight, and its edges lead to numbers that have one
pub closed_more : (edges : ℕ → List NodeEdge) (ws : List ℕ) (i w : ℕ) → i < length ws → 1 ≤ w → All (Closes (has_weight ws)) (edges i) → AreClosed edges (has_weight ws) → AreClosed edges (has_weight (set ws i w))
closed_more edges ws i w l some leads are j is = elim (weight-set ws i j w l) [
  | inl same ↦ subst (λ (k : ℕ). (e : NodeEdge) → Contains (edges k) e → Closes (has_weight (set ws i w)) e) (sym same.0)
      (closes_more edges (has_weight ws) (has_weight (set ws i w)) more i (λ e there. All-contains (Closes (has_weight ws)) (edges i) e leads there))
  | inr other ↦ closes_more edges (has_weight ws) (has_weight (set ws i w)) more j (are j (sym (ap (λ (v : ℕ). nat_le 1 v) other) ∙ is))
]
  where
    more : (k : ℕ) → has_weight ws k ≡ true → has_weight (set ws i w) k ≡ true
    more k h = elim (weight-set ws i k w l) [
      | inl same ↦ ap (λ (v : ℕ). nat_le 1 v) same.1 ∙ one_is_weight w some
      | inr other ↦ ap (λ (v : ℕ). nat_le 1 v) other ∙ h
    ]

-- a weight changes, but is not 0 before or after
pub weight_kept : (ws : List ℕ) (i w : ℕ) → i < length ws → 1 ≤ get_or ws i 0 → 1 ≤ w → (j : ℕ) → has_weight (set ws i w) j ≡ has_weight ws j
weight_kept ws i w l was some j = elim (weight-set ws i j w l) [
  | inl same ↦ ap (λ (v : ℕ). nat_le 1 v) same.1 ∙ one_is_weight w some ∙ sym (one_is_weight (get_or ws i 0) was) ∙ ap (λ (k : ℕ). has_weight ws k) (sym same.0)
  | inr other ↦ ap (λ (v : ℕ). nat_le 1 v) other
]

-- a number keeps its weight, or has none and may get one
pub closed_next : (edges : ℕ → List NodeEdge) (ws : List ℕ) (i was w : ℕ) → i < length ws → was ≡ get_or ws i 0 → (1 ≤ was → w ≡ was) → (was ≡ 0 → 1 ≤ w → All (Closes (has_weight ws)) (edges i))
    → AreClosed edges (has_weight ws) → AreClosed edges (has_weight (set ws i w))
closed_next edges ws i was w l at kept leads are = go was w refl refl
  where
    none_yet : was ≡ 0 → w ≡ 0 → (j : ℕ) → has_weight (set ws i w) j ≡ has_weight ws j
    none_yet before after j = elim (weight-set ws i j w l) [
      | inl same ↦ ap (λ (v : ℕ). nat_le 1 v) (same.1 ∙ after ∙ sym before ∙ at) ∙ ap (λ (k : ℕ). has_weight ws k) (sym same.0)
      | inr other ↦ ap (λ (v : ℕ). nat_le 1 v) other
    ]

    go : (a b : ℕ) → was ≡ a → w ≡ b → AreClosed edges (has_weight (set ws i w))
    go zero zero before after = closed_same edges (has_weight ws) (has_weight (set ws i w)) (none_yet before after) are
    go zero (suc b) before after = let some : 1 ≤ w = omega (arith, after) in closed_more edges ws i w l some (leads before some) are
    go (suc a) b before after =
        let some : 1 ≤ was = omega (arith, before) in
        closed_same edges (has_weight ws) (has_weight (set ws i w)) (weight_kept ws i w l (omega (arith, some, at)) (omega (arith, some, kept some))) are

-- the same, from the facts about a slice, a number of the table, and the check of its node
pub closed_at : {K : Type 0} (ns : List (NodeEntry K)) (ws vs : List ℕ) (i was w : ℕ) (n : NodeEntry K) → vs ≡ ws → slice_get ns i ≡ Some n → i < length ws → was ≡ get_or ws i 0 → (1 ≤ was → w ≡ was)
    → (was ≡ 0 → 1 ≤ w → plan_closes (has_weight vs) (plan_in (Some n)) ≡ true) → AreClosed (edges_in ns) (has_weight ws) → AreClosed (edges_in ns) (has_weight (set ws i w))
closed_at {K} ns ws vs i was w n same found l at kept closes = closed_next (edges_in ns) ws i was w l at kept
    (λ before some. subst (λ (o : Option (NodeEntry K)). All (Closes (has_weight ws)) (node_edges (plan_in o))) (sym found)
    (plan_tells (has_weight ws) (plan_in (Some n)) (subst (λ (xs : List ℕ). plan_closes (has_weight xs) (plan_in (Some n)) ≡ true) same (closes before some))))

-- changing one weight after another keeps which numbers have one
pub kept_one : (ws old : List ℕ) (i was w : ℕ) → i < length ws → was ≡ get_or ws i 0 → nat_le 1 w ≡ nat_le 1 was → ((j : ℕ) → has_weight ws j ≡ has_weight old j) → (j : ℕ) → has_weight (set ws i w) j ≡ has_weight old j
kept_one ws old i was w l at kept same j = elim (weight-set ws i j w l) [
  | inl here ↦ ap (λ (v : ℕ). nat_le 1 v) here.1 ∙ kept ∙ ap (λ (v : ℕ). nat_le 1 v) at ∙ ap (λ (k : ℕ). has_weight ws k) (sym here.0) ∙ same j
  | inr other ↦ ap (λ (v : ℕ). nat_le 1 v) other ∙ same j
]

-- a number with a weight reaches no guarded edge
pub reaches_none : (edges : ℕ → List NodeEdge) (ws : List ℕ) (i : ℕ) → AreClosed edges (has_weight ws) → 1 ≤ get_or ws i 0 → ReachesNoGuard edges i
reaches_none edges ws i are some = (has_weight ws, are, one_is_weight (get_or ws i 0) some)

pub shared_reaches_none : (edges : ℕ → List NodeEdge) (ws vs : List ℕ) (i w : ℕ) → vs ≡ ws → w ≡ get_or vs i 0 → (w == 255) ≡ true → AreClosed edges (has_weight ws) → ReachesNoGuard edges i
shared_reaches_none edges ws vs i w same at is are = reaches_none edges ws i are (omega (arith, eqb-true w 255 is, at, ap (λ (xs : List ℕ). get_or xs i 0) same))

-- ---- a table and its copy, and the definitions' nodes

-- tables that have the same edges
pub closed_edges : (old new : ℕ → List NodeEdge) (closed : ℕ → Bool) → ((i : ℕ) → new i ≡ old i) → AreClosed old closed → AreClosed new closed
closed_edges old new closed same are i is e there = are i is e (subst (λ (es : List NodeEdge). Contains es e) (same i) there)

module _ {K S : Type 0} (shape : K → S) where
  -- the definitions' nodes of a table have its edges
  pub edges_numbered : (ns : List (NodeEntry K)) (i : ℕ) → node_edges ((numbered shape ns).entries i) ≡ edges_in ns i
  edges_numbered ns i = node_edges-shaped shape (plan_in (slice_get ns i))

  pub closed_copy : (copy ns : List (NodeEntry K)) (closed : ℕ → Bool) → numbered shape copy ≡ numbered shape ns → AreClosed (edges_in ns) closed → AreClosed (edges_in copy) closed
  closed_copy copy ns closed same = closed_edges (edges_in ns) (edges_in copy) closed (λ i. sym (edges_numbered copy i) ∙ ap (λ (n : Nodes S). node_edges (n.entries i)) same ∙ edges_numbered ns i)

  pub reaches_numbered : (ns : List (NodeEntry K)) (i : ℕ) → ReachesNoGuard (edges_in ns) i → ReachesNoGuard (λ j. node_edges ((numbered shape ns).entries j)) i
  reaches_numbered ns i (closed, are, is) = (closed, closed_edges (edges_in ns) (λ j. node_edges ((numbered shape ns).entries j)) closed (edges_numbered ns) are, is)

-- The weights of some edges, taken together one edge after another, and weights that are made less one at a time.
use Rattle.std.proofs.Common.{◌≡◌, ◌∷◌, ◌++◌, ◌+◌, ◌<◌, ◌≤◌, ◌∙◌, inl, inr, ℕ, Bool, true, false, List, [], Option, Some, None, ap, sym, arith, cond, map, length, take, set, get_or, replicate}
use Rattle.std.specs.Prelude.{min, slice_get, ◌⊎◌}
use Rattle.std.proofs.lemmas.Grind.{get_or-set_at}
use Rattle.std.proofs.lemmas.List.{append-nil, get_or-replicate, get_or-set_other, get_or_past, length-replicate}
use Rattle.std.proofs.lemmas.List.Sums.{sum_by-append, sum_by-le-sum_by, sum_by_push}
use Rattle.std.proofs.lemmas.Bool.Decides.{eqb_tells, leb_tells}
use Rattle.theory_definitions.specs.Guarded.{NodeEdge, form_edges, node_edges, node_these}
use Rattle.schema_traits.specs.EdgeViews.{edge_of}
use Rattle.schema_traits.specs.declared.numbers.Edge.{Edge}
use Rattle.schema_node_table.specs.declared.node.Entry.{Entry}
use Rattle.schema_node_table.specs.NodeTable.{NodeEntry, plan_in}
use Rattle.schema_node_table.specs.NodeViews.{entry_of, form_of}
use Rattle.schema_solver_state.specs.Following.{Covers, child_edges, edge_weight, edges_from, edges_weight, weight_in}
use Rattle.schema_solver_state.proofs.Ways.{child_more, entry_more}

-- ---- the next child and the next entry

pub weighs_child_some : (ws : List ℕ) (cs : List (Option Edge)) (k : ℕ) (o : Option Edge) (e : Edge) (w v u : ℕ) → k < length cs → o ≡ get_or cs k o → o ≡ Some e
    → w ≡ min 255 (edges_weight ws (child_edges (take k cs))) → v ≡ edge_weight ws (edge_of e) → u ≡ min (w + v) 255 → u ≡ min 255 (edges_weight ws (child_edges (take (k + 1) cs)))
weighs_child_some ws cs k o e w v u l at is before here sum =
    let before_it = child_edges (take k cs) in
    let more : child_edges (take (k + 1) cs) ≡ before_it ++ (edge_of e ∷ []) = child_more cs k o l ∙ ap (λ (c : Option Edge). before_it ++ child_edges (c ∷ [])) (sym at ∙ is) in
    let all : edges_weight ws (child_edges (take (k + 1) cs)) ≡ edges_weight ws before_it + edge_weight ws (edge_of e) = ap (edges_weight ws) more ∙ sum_by_push (edge_weight ws) before_it (edge_of e) in
    omega (arith, before, here, sum, all)

pub weighs_child_none : (ws : List ℕ) (cs : List (Option Edge)) (k : ℕ) (o : Option Edge) (w : ℕ) → k < length cs → o ≡ get_or cs k o → o ≡ None
    → w ≡ min 255 (edges_weight ws (child_edges (take k cs))) → w ≡ min 255 (edges_weight ws (child_edges (take (k + 1) cs)))
weighs_child_none ws cs k o w l at is before =
    let before_it = child_edges (take k cs) in
    let more : child_edges (take (k + 1) cs) ≡ before_it = child_more cs k o l ∙ ap (λ (c : Option Edge). before_it ++ child_edges (c ∷ [])) (sym at ∙ is) ∙ append-nil before_it in
    before ∙ ap (λ (es : List NodeEdge). min 255 (edges_weight ws es)) (sym more)

pub weighs_entry : {K : Type 0} (ws : List ℕ) (xs : List (Entry K)) (k : ℕ) (e : Entry K) (w v u : ℕ) → k < length xs → e ≡ get_or xs k e
    → w ≡ min 255 (edges_weight ws (node_edges (node_these (map entry_of (take k xs))))) → v ≡ min 255 (edges_weight ws (form_edges (form_of e.form))) → u ≡ min (w + v) 255
    → u ≡ min 255 (edges_weight ws (node_edges (node_these (map entry_of (take (k + 1) xs)))))
weighs_entry ws xs k e w v u l at before here sum =
    let before_it = node_edges (node_these (map entry_of (take k xs))) in
    let of_it = form_edges (form_of e.form) in
    let all : edges_weight ws (node_edges (node_these (map entry_of (take (k + 1) xs)))) ≡ edges_weight ws before_it + edges_weight ws of_it = ap (edges_weight ws) (entry_more xs k e l at) ∙ sum_by-append (edge_weight ws) before_it of_it in
    omega (arith, before, here, sum, all)

-- ---- if each weight is 255, there is nothing to cover

weight-replicate : (n i : ℕ) → weight_in (replicate n 255) i ≡ 255
weight-replicate n i = elim (leb_tells n i) [
  | inl past ↦ get_or_past (replicate n 255) i 255 (omega (arith, length-replicate {A = ℕ} n 255, past.1))
  | inr within ↦ get_or-replicate n i 255 255 within.1
]

pub covers_uncounted : {K : Type 0} (ns : List (NodeEntry K)) (ws : List ℕ) (n : ℕ) → ws ≡ replicate n 255 → Covers ns ws
covers_uncounted ns ws n is i within small = absurd (omega (arith, small, ap (λ (xs : List ℕ). weight_in xs i) is, weight-replicate n i))

-- ---- one weight is made less

-- no weight is greater than before
abbrev IsLighter : List ℕ → List ℕ → Type 0
IsLighter new old = (i : ℕ) → weight_in new i ≤ weight_in old i

either_lighter : (guarded : Bool) (a b : ℕ) → a ≤ b → cond guarded 255 a ≤ cond guarded 255 b
either_lighter true a b less = omega arith
either_lighter false a b less = less

edges_lighter : (new old : List ℕ) (es : List NodeEdge) → IsLighter new old → edges_weight new es ≤ edges_weight old es
edges_lighter new old es less = sum_by-le-sum_by (edge_weight new) (edge_weight old) es (λ (e : NodeEdge). either_lighter e.guarded (weight_in new e.node) (weight_in old e.node) (less e.node))

weight-set : (ws : List ℕ) (i j w : ℕ) → i < length ws → ((j ≡ i) × (weight_in (set ws i w) j ≡ w)) ⊎ (weight_in (set ws i w) j ≡ weight_in ws j)
weight-set ws i j w l = elim (eqb_tells j i) [
  | inl same ↦ inl (same.1, get_or-set_at ws i j w 255 same.1 l)
  | inr other ↦ inr (get_or-set_other ws i j w 255 other.1)
]

set_lighter : (ws : List ℕ) (i w : ℕ) → i < length ws → w < weight_in ws i → IsLighter (set ws i w) ws
set_lighter ws i w l less j = elim (weight-set ws i j w l) [
  | inl same ↦ omega (arith, same.1, less, ap (weight_in ws) same.0)
  | inr other ↦ omega (arith, other)
]

-- the weight below a number of the table, by weights that a slice has
pub weighs_number : {K : Type 0} (ns : List (NodeEntry K)) (ws vs : List ℕ) (i v : ℕ) (n : NodeEntry K) → vs ≡ ws → slice_get ns i ≡ Some n → v ≡ min 255 (edges_weight vs (node_edges (plan_in (Some n)))) → v ≡ min 255 (edges_weight ws (edges_from ns i))
weighs_number {K} ns ws vs i v n same found is = is ∙ ap (λ (xs : List ℕ). min 255 (edges_weight xs (node_edges (plan_in (Some n))))) same ∙ ap (λ (o : Option (NodeEntry K)). min 255 (edges_weight ws (node_edges (plan_in o)))) (sym found)

-- it still weighs more than what it leads to: what that weighs is made no greater
pub covers_less : {K : Type 0} (ns : List (NodeEntry K)) (ws : List ℕ) (i w v : ℕ) → i < length ws → w < weight_in ws i → v ≡ min 255 (edges_weight ws (edges_from ns i)) → w ≡ min (v + 1) 255
    → Covers ns ws → Covers ns (set ws i w)
covers_less ns ws i w v l less below is covers j within small =
    let new = set ws i w in
    let lighter = edges_lighter new ws (edges_from ns j) (set_lighter ws i w l less) in
    elim (weight-set ws i j w l) [
      | inl same ↦ omega (arith, lighter, below, is, small, same.1, ap (λ (k : ℕ). edges_weight ws (edges_from ns k)) same.0)
      | inr other ↦ omega (arith, lighter, small, other, covers j within (omega (arith, small, other)))
    ]

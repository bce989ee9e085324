-- The ways to each number along some edges, counted one edge after another.
use Rattle.std.proofs.Common.{◌≡◌, ◌∷◌, ◌++◌, ◌&&◌, ◌||◌, ◌+◌, ◌<◌, ◌≤◌, ◌∙◌, ℕ, Bool, false, List, [], Option, Some, None, ap, refl, sym, subst, arith, cond, eqb, leb, not, map, length, take, set, get_or, option_map, append_assoc, replicate, below_more}
use Rattle.std.specs.Prelude.{min, flat_map, slice_get}
use Rattle.std.specs.List.{filter_map}
use Rattle.std.proofs.lemmas.Grind.{common_steps, flat_map-append}
use Rattle.std.proofs.Math.ListN.{get_or-append}
use Rattle.std.proofs.lemmas.List.{append-nil, get_or-replicate, get_or_push, length-replicate, map-append, take_all, take_more}
use Rattle.std.proofs.lemmas.List.Elements.{filter_map-append}
use Rattle.std.proofs.lemmas.List.Folds.{flat_map-map}
use Rattle.std.proofs.lemmas.List.Sums.{sum_by_push}
use Rattle.std.proofs.lemmas.Bool.Decides.{nat_tests}
use Rattle.std.proofs.lemmas.Option.{get_or_from_slice_get, slice_get_within}
use Rattle.theory_definitions.specs.Guarded.{NodeEdge, NodePart, form_edges, node_edges, node_these}
use Rattle.schema_traits.specs.EdgeViews.{edge_of}
use Rattle.schema_traits.specs.declared.numbers.Edge.{Edge}
use Rattle.schema_node_table.specs.declared.node.Entry.{Entry}
use Rattle.schema_node_table.specs.NodeTable.{NodeEntry, plan_in}
use Rattle.schema_node_table.specs.NodeViews.{entry_of, form_of}
use Rattle.schema_solver_state.specs.Following.{AreWays, Counts, child_edges, is_settled_in, table_edges, ways_along, ways_in, weight_in}

-- ---- one edge

one_more : (es : List NodeEdge) (e : NodeEdge) (i : ℕ) → ways_along (es ++ e ∷ []) i ≡ ways_along es i + cond (not e.guarded && eqb e.node i) 1 0
one_more es e i = sum_by_push (λ (x : NodeEdge). cond (not x.guarded && eqb x.node i) 1 0) es e

-- one that nothing guards, where fewer than two were counted
pub counts_one : (e : NodeEdge) (ways : List ℕ) (w : ℕ) → e.guarded ≡ false → e.node < length ways → w ≡ get_or ways e.node 0 → w < 2 → Counts (e ∷ []) ways (set ways e.node (w + 1))
counts_one e ways w g b is few = record { size = search (arith, common_steps); counted = λ es are i l. let more = one_more es e i in let was = are i in grind (arith, common_steps, nat_tests) }

-- ---- more and more of them

pub counts_none : (ways : List ℕ) → Counts [] ways ways
counts_none ways = record { size = refl; counted = λ es are. subst (λ (xs : List NodeEdge). AreWays xs ways) (sym (append-nil es)) are }

pub counts_then : {a b c : List NodeEdge} {x y z : List ℕ} → Counts a x y → Counts b y z → c ≡ a ++ b → Counts c x z
counts_then {a} {b} {c} {x} {y} {z} first next is = record {
  size = next.size ∙ first.size;
  counted = λ es are. subst (λ (xs : List NodeEdge). AreWays xs z) (append_assoc es a b ∙ ap (λ (xs : List NodeEdge). es ++ xs) (sym is)) (next.counted (es ++ a) (first.counted es are));
}

-- ---- the next child, the next entry and the next node

pub child_more : (cs : List (Option Edge)) (k : ℕ) (d : Option Edge) → k < length cs → child_edges (take (k + 1) cs) ≡ child_edges (take k cs) ++ child_edges (get_or cs k d ∷ [])
child_more cs k d l = ap child_edges (take_more cs k d l) ∙ ap (filter_map (λ (o : Option NodeEdge). o)) (map-append (option_map edge_of) (take k cs) (get_or cs k d ∷ [])) ∙ filter_map-append (λ (o : Option NodeEdge). o) (map (option_map edge_of) (take k cs)) (map (option_map edge_of) (get_or cs k d ∷ []))

counts_child : (cs : List (Option Edge)) (k : ℕ) (d : Option Edge) {x y z : List ℕ} → k < length cs → Counts (child_edges (take k cs)) x y → Counts (child_edges (get_or cs k d ∷ [])) y z → Counts (child_edges (take (k + 1) cs)) x z
counts_child cs k d l before more = counts_then before more (child_more cs k d l)

pub counts_child_some : (cs : List (Option Edge)) (k : ℕ) (o : Option Edge) (e : Edge) {x y z : List ℕ} → k < length cs → o ≡ get_or cs k o → o ≡ Some e → Counts (child_edges (take k cs)) x y → Counts (edge_of e ∷ []) y z → Counts (child_edges (take (k + 1) cs)) x z
counts_child_some cs k o e {x} {y} {z} l at is before more = counts_child cs k o l before (subst (λ (c : Option Edge). Counts (child_edges (c ∷ [])) y z) (sym is ∙ at) more)

pub counts_child_none : (cs : List (Option Edge)) (k : ℕ) (o : Option Edge) {x y : List ℕ} → k < length cs → o ≡ get_or cs k o → o ≡ None → Counts (child_edges (take k cs)) x y → Counts (child_edges (take (k + 1) cs)) x y
counts_child_none cs k o {x} {y} l at is before = counts_child cs k o l before (subst (λ (c : Option Edge). Counts (child_edges (c ∷ [])) y y) (sym is ∙ at) (counts_none y))

next_more : {A : Type 0} (f : A → List NodeEdge) (xs : List A) (k : ℕ) (d : A) → k < length xs → flat_map f (take (k + 1) xs) ≡ flat_map f (take k xs) ++ f (get_or xs k d)
next_more f xs k d l = ap (flat_map f) (take_more xs k d l) ∙ flat_map-append f (take k xs) (get_or xs k d ∷ []) ∙ ap (λ (es : List NodeEdge). flat_map f (take k xs) ++ es) (append-nil (f (get_or xs k d)))

counts_next : {A : Type 0} (f : A → List NodeEdge) (xs : List A) (k : ℕ) (d : A) {x y z : List ℕ} → k < length xs → Counts (flat_map f (take k xs)) x y → Counts (f (get_or xs k d)) y z → Counts (flat_map f (take (k + 1) xs)) x z
counts_next f xs k d l before more = counts_then before more (next_more f xs k d l)

pub entry_more : {K : Type 0} (xs : List (Entry K)) (k : ℕ) (e : Entry K) → k < length xs → e ≡ get_or xs k e → node_edges (node_these (map entry_of (take (k + 1) xs))) ≡ node_edges (node_these (map entry_of (take k xs))) ++ form_edges (form_of e.form)
entry_more {K} xs k e l at =
    let edges = λ (e : Entry K). form_edges (form_of e.form) in
    let each = flat_map-map (λ (p : NodePart K). form_edges p.form) entry_of in
    each (take (k + 1) xs) ∙ next_more edges xs k e l ∙ ap (λ (es : List NodeEdge). es ++ edges (get_or xs k e)) (sym (each (take k xs))) ∙ ap (λ (d : Entry K). node_edges (node_these (map entry_of (take k xs))) ++ edges d) (sym at)

pub counts_entry : {K : Type 0} (xs : List (Entry K)) (k : ℕ) (e : Entry K) {x y z : List ℕ} → k < length xs → e ≡ get_or xs k e → Counts (node_edges (node_these (map entry_of (take k xs)))) x y → Counts (form_edges (form_of e.form)) y z → Counts (node_edges (node_these (map entry_of (take (k + 1) xs)))) x z
counts_entry xs k e l at before more = counts_then before more (entry_more xs k e l at)

pub counts_node : {K : Type 0} (ns : List (NodeEntry K)) (k : ℕ) (n : NodeEntry K) {x y z : List ℕ} → slice_get ns k ≡ Some n → Counts (table_edges (take k ns)) x y → Counts (node_edges (plan_in (Some n))) y z → Counts (table_edges (take (k + 1) ns)) x z
counts_node {K} ns k n {x} {y} {z} at before more =
    let edges = λ (m : NodeEntry K). node_edges (plan_in (Some m)) in
    counts_next edges ns k n (slice_get_within ns k n at) before (subst (λ (m : NodeEntry K). Counts (edges m) y z) (sym (get_or_from_slice_get ns k n n at)) more)

-- ---- the edges of all nodes

-- of no edges there are no ways
pub are_ways_none : (ways : List ℕ) (count : ℕ) → ways ≡ replicate count 0 → AreWays [] ways
are_ways_none ways count is i l = ap (λ (xs : List ℕ). get_or xs i 0) is ∙ get_or-replicate count i 0 0 (let n = ap length is in omega (arith, n, length-replicate {A = ℕ} count 0, l))

-- once each node was counted, all ways of the table are
pub are_ways_all : {K : Type 0} (ns : List (NodeEntry K)) (k : ℕ) (x y : List ℕ) → length ns ≤ k → AreWays [] x → Counts (table_edges (take k ns)) x y → AreWays (table_edges ns) y
are_ways_all {K} ns k x y all none counts = subst (λ (ms : List (NodeEntry K)). AreWays (table_edges ms) y) (take_all k ns all) (counts.counted [] none)

-- ---- which numbers are followed

-- by what was counted
as_counted : (w ways : ℕ) → w ≡ min 2 ways → leb w 1 ≡ leb ways 1
as_counted w ways is = grind (arith, nat_tests)

pub followed_by : {K : Type 0} (ns : List (NodeEntry K)) (ws : List ℕ) (i w v : ℕ) (b : Bool) → w ≡ min 2 (ways_in ns i) → v ≡ weight_in ws i → b ≡ (leb w 1 || (is_settled_in ns i && leb v 254))
    → b ≡ (leb (ways_in ns i) 1 || (is_settled_in ns i && leb (weight_in ws i) 254))
followed_by ns ws i w v b is weighs says =
    says ∙ ap (λ (few : Bool). few || (is_settled_in ns i && leb v 254)) (as_counted w (ways_in ns i) is) ∙ ap (λ (x : ℕ). leb (ways_in ns i) 1 || (is_settled_in ns i && leb x 254)) weighs

-- of one more number
pub followed_more : (p : ℕ → Bool) (old new : List Bool) (b : Bool) (k : ℕ) → new ≡ old ++ b ∷ [] → length old ≡ k → b ≡ p k → ((i : ℕ) → i < k → get_or old i false ≡ p i) → (i : ℕ) → i < k + 1 → get_or new i false ≡ p i
followed_more p old new b k is size here before = below_more (λ (i : ℕ). get_or new i false ≡ p i) k
    (λ i l. ap (λ (xs : List Bool). get_or xs i false) is ∙ get_or-append old (b ∷ []) false i (omega (arith, l, size)) ∙ before i l)
    (ap (λ (xs : List Bool). get_or xs k false) is ∙ get_or_push old b false k size ∙ here)

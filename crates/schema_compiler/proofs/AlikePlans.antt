-- Two plans of one key are alike, if a rule says for each number whether edges to it are guarded.
use Rattle.std.proofs.Common.{◌≡◌, ℕ, List, [], ◌∷◌, refl, sym, ◌∙◌, inl}
use Rattle.std.specs.Prelude.{Bool, None, Option, Some}
use Rattle.theory_definitions.specs.Instance.{Text}
use Rattle.theory_definitions.specs.Parts.{Parts}
use Rattle.theory_definitions.specs.Plan.{Edge, Form, Key, Part, Plan, always, child, keyword, never, reference, reference_edge, these}
use Rattle.theory_definitions.specs.Guarded.{NodeEdge, NodeForm, NodePart, NodePlan, Nodes, form_edges, node_always, node_child, node_edges, node_keyword, node_never, node_reference, node_these}
use Rattle.theory_meaning.specs.Numbered.{IsNumber, Numbers, SameEdge, SameForm, SamePart, SameParts, SamePlan}
use Rattle.theory_meaning.proofs.Settles.{picked}
use Rattle.schema_keys.specs.Compiling.{In}
use Rattle.schema_compiler.specs.Agreeing.{AlikeForm, AlikePart, AlikeParts, AlikePlan}
use Rattle.schema_keys.proofs.Lists.{in_left, in_of, in_right, some_is}

module _ {S K R : Type 0} (w : Parts S K R) (keys : Numbers S) (once : (i j : ℕ) (k : Key S) → IsNumber keys i k → IsNumber keys j k → i ≡ j) (nodes nodes' : Nodes K) (guards : ℕ → Bool) where
  -- each of these edges is guarded as the rule says
  abbrev pub AreGuarded : List NodeEdge → Type 0
  AreGuarded es = (e : NodeEdge) → In es e → e.guarded ≡ guards e.node

  edge_same : (e e' : NodeEdge) (edge : Edge S) → SameEdge w keys nodes (Some e) (Some edge) → SameEdge w keys nodes' (Some e') (Some edge) → e.guarded ≡ guards e.node → e'.guarded ≡ guards e'.node → e ≡ e'
  edge_same e e' edge h h' g g' =
      let one : e.node ≡ e'.node = once e.node e'.node edge.key h.0 h'.0 in
      let along : e.path ≡ e'.path = h.1 ∙ sym h'.1 in
      let alike : e.guarded ≡ e'.guarded = g ∙ ((λ j. guards (one j)) ∙ sym g') in
      λ j. record { node = one j; path = along j; guarded = alike j }

  option_same : (o o' : Option NodeEdge) (edge : Option (Edge S)) → SameEdge w keys nodes o edge → SameEdge w keys nodes' o' edge
      → ((e : NodeEdge) → o ≡ Some e → e.guarded ≡ guards e.node) → ((e : NodeEdge) → o' ≡ Some e → e.guarded ≡ guards e.node) → o ≡ o'
  option_same None None edge h h' g g' = refl
  option_same None (Some e') None h h' g g' = absurd h'
  option_same None (Some e') (Some edge) h h' g g' = absurd h
  option_same (Some e) None None h h' g g' = absurd h
  option_same (Some e) None (Some edge) h h' g g' = absurd h'
  option_same (Some e) (Some e') None h h' g g' = absurd h
  option_same (Some e) (Some e') (Some edge) h h' g g' = let same = edge_same e e' edge h h' (g e refl) (g' e' refl) in λ j. Some (same j)

  child_in : (es : List (Option NodeEdge)) (i : ℕ) (e : NodeEdge) (m : K) → node_child es i ≡ Some e → In (form_edges (node_keyword m es)) e
  child_in es i e m at = in_of (form_edges (node_keyword m es)) e (picked (λ o. o) es i e at)

  form_same : (k : Key S) (name : Text) (x x' : NodeForm K) (y : Form K) → SameForm w keys nodes k name x y → SameForm w keys nodes' k name x' y → AreGuarded (form_edges x) → AreGuarded (form_edges x') → AlikeForm x x'
  form_same k name (node_keyword m es) (node_keyword m' es') (keyword m'' requests absorbed) h h' g g' =
      (h.0 ∙ sym h'.0, λ i. option_same (node_child es i) (node_child es' i) (child w k name requests i) (h.1 i) (h'.1 i) (λ e at. g e (child_in es i e m at)) (λ e at. g' e (child_in es' i e m' at)))
  form_same k name (node_keyword m es) (node_keyword m' es') (reference kind text) h h' g g' = absurd h
  form_same k name (node_reference e) (node_reference e') (reference kind text) h h' g g' =
      some_is e e' (option_same (Some e) (Some e') (reference_edge w k name kind text) h h' (λ x at. g x (inl (some_is e x at))) (λ x at. g' x (inl (some_is e' x at))))
  form_same k name (node_reference e) (node_reference e') (keyword m requests absorbed) h h' g g' = absurd h
  form_same k name (node_keyword m es) (node_reference e) (keyword m' requests absorbed) h h' g g' = absurd h'
  form_same k name (node_keyword m es) (node_reference e) (reference kind text) h h' g g' = absurd h
  form_same k name (node_reference e) (node_keyword m es) (keyword m' requests absorbed) h h' g g' = absurd h
  form_same k name (node_reference e) (node_keyword m es) (reference kind text) h h' g g' = absurd h'

  part_same : (k : Key S) (x x' : NodePart K) (y : Part K) → SamePart w keys nodes k x y → SamePart w keys nodes' k x' y → AreGuarded (form_edges x.form) → AreGuarded (form_edges x'.form) → AlikePart x x'
  part_same k x x' y h h' g g' = record {
    name = h.name ∙ sym h'.name;
    priority = h.priority ∙ sym h'.priority;
    is_leaf = h.is_leaf ∙ sym h'.is_leaf;
    form = form_same k y.name x.form x'.form y.form h.form h'.form g g';
  }

  parts_same : (k : Key S) (xs xs' : List (NodePart K)) (ys : List (Part K)) → SameParts w keys nodes k xs ys → SameParts w keys nodes' k xs' ys
      → AreGuarded (node_edges (node_these xs)) → AreGuarded (node_edges (node_these xs')) → AlikeParts xs xs'
  parts_same k [] [] ys h h' g g' = tt
  parts_same k [] (x' ∷ xs') [] h h' g g' = absurd h'
  parts_same k [] (x' ∷ xs') (y ∷ ys) h h' g g' = absurd h
  parts_same k (x ∷ xs) [] [] h h' g g' = absurd h
  parts_same k (x ∷ xs) [] (y ∷ ys) h h' g g' = absurd h'
  parts_same k (x ∷ xs) (x' ∷ xs') [] h h' g g' = absurd h
  parts_same k (x ∷ xs) (x' ∷ xs') (y ∷ ys) h h' g g' = (
    part_same k x x' y h.0 h'.0 (λ e i. g e (in_left (form_edges x.form) (node_edges (node_these xs)) e i)) (λ e i. g' e (in_left (form_edges x'.form) (node_edges (node_these xs')) e i)),
    parts_same k xs xs' ys h.1 h'.1 (λ e i. g e (in_right (form_edges x.form) (node_edges (node_these xs)) e i)) (λ e i. g' e (in_right (form_edges x'.form) (node_edges (node_these xs')) e i)),
  )

  pub plan_same : (k : Key S) (x x' : NodePlan K) (y : Plan K) → SamePlan w keys nodes k x y → SamePlan w keys nodes' k x' y → AreGuarded (node_edges x) → AreGuarded (node_edges x') → AlikePlan x x'
  plan_same k node_always node_always y h h' g g' = tt
  plan_same k node_never node_never y h h' g g' = tt
  plan_same k (node_these xs) (node_these xs') (these ys) h h' g g' = parts_same k xs xs' ys h h' g g'
  plan_same k node_always node_never always h h' g g' = absurd h'
  plan_same k node_always node_never never h h' g g' = absurd h
  plan_same k node_always node_never (these ys) h h' g g' = absurd h
  plan_same k node_always (node_these xs') always h h' g g' = absurd h'
  plan_same k node_always (node_these xs') never h h' g g' = absurd h
  plan_same k node_always (node_these xs') (these ys) h h' g g' = absurd h
  plan_same k node_never node_always always h h' g g' = absurd h
  plan_same k node_never node_always never h h' g g' = absurd h'
  plan_same k node_never node_always (these ys) h h' g g' = absurd h
  plan_same k node_never (node_these xs') always h h' g g' = absurd h
  plan_same k node_never (node_these xs') never h h' g g' = absurd h'
  plan_same k node_never (node_these xs') (these ys) h h' g g' = absurd h
  plan_same k (node_these xs) node_always always h h' g g' = absurd h
  plan_same k (node_these xs) node_always never h h' g g' = absurd h
  plan_same k (node_these xs) node_always (these ys) h h' g g' = absurd h'
  plan_same k (node_these xs) node_never always h h' g g' = absurd h
  plan_same k (node_these xs) node_never never h h' g g' = absurd h
  plan_same k (node_these xs) node_never (these ys) h h' g g' = absurd h'
  plan_same k (node_these xs) (node_these xs') always h h' g g' = absurd h
  plan_same k (node_these xs) (node_these xs') never h h' g g' = absurd h

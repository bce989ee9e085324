-- Two compilations of one schema agree: their keys are found in one order and their edges are
-- guarded by one rule, so they run alike.
use Rattle.std.proofs.Common.{◌≡◌, ℕ, ◌<◌, ◌≤◌, List, [], length, map, refl, ap, sym, ◌∙◌, subst, arith, inl, inr}
use Rattle.std.specs.Prelude.{Contains, None, Option, Some, option_and_then, option_map, slice_get, unwrap_or}
use Rattle.std.proofs.Math.Path.{fun_ext}
use Rattle.std.proofs.lemmas.Option.{slice_get-map, slice_get_past, slice_get_within}
use Rattle.serde_json.specs.View.{view}
use Rattle.theory_definitions.specs.Instance.{Text}
use Rattle.theory_definitions.specs.Parts.{Parts}
use Rattle.theory_definitions.specs.Plan.{Key, plan}
use Rattle.theory_definitions.specs.Guarded.{NodeEdge, NodePlan, Nodes, node_always, node_edges}
use Rattle.theory_meaning.specs.Numbered.{IsNumber, StandsFor}
use Rattle.schema_node_table.proofs.RankedTable.{node_edges-shaped}
use Rattle.schema_node_table.specs.NodeTable.{NodeEntry, absolute_in, numbered, plan_in, shaped}
use Rattle.schema_keys.specs.Compiling.{In}
use Rattle.schema_compiler.specs.Compilation.{IsCompilation}
use Rattle.schema_compiler.specs.Finding.{Standing, standing_of}
use Rattle.schema_compiler.specs.UnderWay.{EdgesWithin}
use Rattle.schema_compiler.specs.Agreeing as agree
use Rattle.schema_compiler.specs.Agreeing.{AlikePlan, AreAlike}
use Rattle.schema_compiler.proofs.AlikePlans.{plan_same}
use Rattle.schema_compiler.proofs.AlikeRuns.{guarded_runs_same, guarded_senses_same}
use Rattle.schema_compiler.proofs.Courses.{one_order}
use Rattle.schema_compiler.proofs.GuardsAgree.{guard_between, guarded_so}
use Rattle.schema_keys.proofs.Lists.{below_or, contains_of, there}

-- a number beyond the end of a table accepts everything
module _ {K C : Type 0} (shape : C → K) (nodes : List (NodeEntry C)) (i : ℕ) (past : length nodes ≤ i) where
  none_there : slice_get nodes i ≡ None
  none_there = slice_get_past nodes i past

  accepts_past : (numbered shape nodes).entries i ≡ node_always
  accepts_past = ap (λ (o : Option (NodeEntry C)). shaped shape (plan_in o)) none_there

  no_location : (numbered shape nodes).location i ≡ []
  no_location = ap (λ (o : Option (NodeEntry C)). unwrap_or (option_map (λ (n : NodeEntry C). n.location) o) []) none_there

  no_absolute : (t : Text) → (numbered shape nodes).absolute i t ≡ None
  no_absolute t = ap (λ (o : Option (NodeEntry C)). unwrap_or (option_map (λ (n : NodeEntry C). absolute_in n t) o) None) none_there

  no_annotations : (numbered shape nodes).annotations i ≡ None
  no_annotations = ap (λ (o : Option (NodeEntry C)). option_and_then (λ (n : NodeEntry C). option_map view n.annotations) o) none_there

module _ {S K R C : Type 0} (w : Parts S K R) (shape : C → K) (limit nested : ℕ) (root : Key S) (keys : List (Key S)) (nodes : List (NodeEntry C)) (compiled : IsCompilation w shape limit nested root keys nodes) where
  is_number : (i : ℕ) (k : Key S) → slice_get keys i ≡ Some k → IsNumber (map Some keys) i k
  is_number i k at = slice_get-map Some keys i ∙ ap (λ (o : Option (Key S)). option_map Some o) at

  stands_at : (i : ℕ) (k : Key S) → slice_get keys i ≡ Some k → StandsFor w (map Some keys) (numbered shape nodes) i k
  stands_at i k at = (compiled.numbers).stands i k (is_number i k at)

  -- every edge leads to a number of the table
  edges_within : EdgesWithin nodes
  edges_within i n p e at formed is_in =
      let lengths = compiled.lengths in
      let here : i < length keys = let l = slice_get_within nodes i n at in omega (arith, l, lengths) in
      let has : Contains (node_edges (plan_in (slice_get nodes i))) e =
      subst (λ (o : Option (NodeEntry C)). Contains (node_edges (plan_in o)) e) (sym at) (subst (λ (o : Option (NodePlan C)). Contains (node_edges (unwrap_or o node_always)) e) (sym formed) (contains_of (node_edges p) e is_in)) in
      let l = (compiled.ranked i here e (subst (λ es. Contains es e) (sym (node_edges-shaped shape (plan_in (slice_get nodes i)))) has)).0 in
      omega (arith, l, lengths)

  -- each edge is guarded by the rule of the states
  rule_guards : (standings : List Standing) → standings ≡ map standing_of nodes → (i : ℕ) → i < length keys → (e : NodeEdge) → In (node_edges ((numbered shape nodes).entries i)) e → e.guarded ≡ guard_between standings i e.node
  rule_guards standings same i lt e is_in =
      let lengths = compiled.lengths in
      let here : i < length nodes = omega (arith, lt, lengths) in
      guarded_so nodes shape compiled.guards edges_within i here e (contains_of (node_edges ((numbered shape nodes).entries i)) e is_in) ∙ sym (λ j. guard_between (same j) i e.node)

-- two compilations with the same keys and the same states
module _ {S K R C D : Type 0} (w : Parts S K R) (shape : C → K) (shape' : D → K) (limit limit' nested : ℕ) (root : Key S) (keys : List (Key S)) (nodes : List (NodeEntry C)) (nodes' : List (NodeEntry D))
    (first : IsCompilation w shape limit nested root keys nodes) (second : IsCompilation w shape' limit' nested root keys nodes') (stand : map standing_of nodes ≡ map standing_of nodes') where
  past : (i : ℕ) → length keys ≤ i → length nodes ≤ i
  past i le = let l = first.lengths in omega (arith, l, le)

  past' : (i : ℕ) → length keys ≤ i → length nodes' ≤ i
  past' i le = let l = second.lengths in omega (arith, l, le)

  abbrev table : Nodes K
  table = numbered shape nodes

  abbrev table' : Nodes K
  table' = numbered shape' nodes'

  entries_alike : (i : ℕ) → AlikePlan (table.entries i) (table'.entries i)
  entries_alike i = elim (below_or i (length keys)) [
    | inl lt ↦
        let (k, at) = there keys i lt in
        plan_same w (map Some keys) (first.numbers).once table table' (guard_between (map standing_of nodes) i) k (table.entries i) (table'.entries i) (plan w k)
        (stands_at w shape limit nested root keys nodes first i k at).entries (stands_at w shape' limit' nested root keys nodes' second i k at).entries
        (rule_guards w shape limit nested root keys nodes first (map standing_of nodes) refl i lt) (rule_guards w shape' limit' nested root keys nodes' second (map standing_of nodes) stand i lt)
    | inr le ↦ subst (λ x. AlikePlan x (table'.entries i)) (sym (accepts_past shape nodes i (past i le))) (subst (λ x. AlikePlan node_always x) (sym (accepts_past shape' nodes' i (past' i le))) tt)
  ]

  -- equal in both tables for each key, and beyond their ends
  alike_at : {X : Type 0} (read : Nodes K → ℕ → X) → ((i : ℕ) (k : Key S) → slice_get keys i ≡ Some k → read table i ≡ read table' i) → ((i : ℕ) → length keys ≤ i → read table i ≡ read table' i) → (i : ℕ) → read table i ≡ read table' i
  alike_at read here beyond i = elim (below_or i (length keys)) [ inl lt ↦ let (k, at) = there keys i lt in here i k at | inr le ↦ beyond i le ]

  locations_alike : (i : ℕ) → table.location i ≡ table'.location i
  locations_alike = alike_at (λ t i. t.location i)
      (λ i k at. (stands_at w shape limit nested root keys nodes first i k at).location ∙ sym (stands_at w shape' limit' nested root keys nodes' second i k at).location)
      (λ i le. no_location shape nodes i (past i le) ∙ sym (no_location shape' nodes' i (past' i le)))

  absolutes_alike : (i : ℕ) → table.absolute i ≡ table'.absolute i
  absolutes_alike i = fun_ext (λ t. alike_at (λ x j. x.absolute j t)
      (λ i k at. (stands_at w shape limit nested root keys nodes first i k at).absolute t ∙ sym ((stands_at w shape' limit' nested root keys nodes' second i k at).absolute t))
      (λ i le. no_absolute shape nodes i (past i le) t ∙ sym (no_absolute shape' nodes' i (past' i le) t)) i)

  annotations_alike : (i : ℕ) → table.annotations i ≡ table'.annotations i
  annotations_alike = alike_at (λ t i. t.annotations i)
      (λ i k at. (stands_at w shape limit nested root keys nodes first i k at).annotations ∙ sym (stands_at w shape' limit' nested root keys nodes' second i k at).annotations)
      (λ i le. no_annotations shape nodes i (past i le) ∙ sym (no_annotations shape' nodes' i (past' i le)))

  tables_alike : AreAlike w table table'
  tables_alike = record {
    entries = entries_alike;
    locations = locations_alike;
    absolutes = λ i t. ap (λ (f : Text → Option Text). f t) (absolutes_alike i);
    annotations = annotations_alike;
    runs = λ subject_of. guarded_runs_same w.keywords w.matcher table table' subject_of entries_alike locations_alike absolutes_alike annotations_alike;
    senses = λ subject_of. guarded_senses_same w.keywords w.matcher table table' subject_of entries_alike locations_alike absolutes_alike annotations_alike;
  }

pub one_order_found : {S K R : Type 0} (w : Parts S K R) → agree.OneOrder w
one_order_found w nested root keys keys' standings standings' f g = one_order w nested root keys keys' standings standings' f g

pub tables_agree : {S K R C D : Type 0} (w : Parts S K R) (shape : C → K) (shape' : D → K) → agree.TablesAgree w shape shape'
tables_agree w shape shape' limit limit' nested root keys keys' nodes nodes' first second =
    let (same, stand) = one_order w nested root keys keys' (map standing_of nodes) (map standing_of nodes') first.order second.order in
    (same, stand, tables_alike w shape shape' limit limit' nested root keys nodes nodes' first (subst (λ ks. IsCompilation w shape' limit' nested root ks nodes') (sym same) second) stand)

-- A table and its clone: the clone is ordered if the table is, and has the same nodes for the
-- definitions.
use Rattle.std.proofs.Common.{◌≡◌, ℕ, suc, ◌+◌, ◌-◌, ◌*◌, ◌<◌, max, cond, List, [], ◌∷◌, refl, sym, ◌∙◌, ap, subst, ◌++◌}
use Rattle.std.specs.Prelude.{Option, Some, None, slice_get, All, is_some, map, option_map, option_and_then, unwrap_or, flat_map, drop}
use Rattle.std.proofs.Math.Path.{fun_ext}
use Rattle.std.proofs.lemmas.Option.{slice_get-map}
use Rattle.serde_json.specs.View.{view}
use Rattle.serde_json.specs.Data.{Data}
use Rattle.theory_definitions.specs.Instance.{Text}
use Rattle.theory_definitions.specs.Guarded.{NodeEdge, NodePart, NodePlan, node_always, node_keyword, node_never, node_reference, node_these, Nodes, node_edges, form_edges}
use Rattle.theory_definitions.specs.Plan.{encoded}
use Rattle.schema_node_table.specs.NodeTable.{NodeEntry, shaped_part, shaped_form, shaped, plan_in, absolute_in, last_round, last_order, rank_of, numbered, filled_count, Leads, EdgeLeads, NodeLeads, IsOrdered}
use Rattle.schema_node_table.specs.Cloned.{ShapedNode, shaped_node, shaped_nodes}
use Rattle.schema_node_table.proofs.NodePlaces.{some_is}

some_there : {A B : Type 0} (f : A → B) (o : Option A) (y : B) → option_map f o ≡ Some y → (x : A) × (o ≡ Some x) × (f x ≡ y)
some_there f None y e = absurd (let h : ⊥ = cc in h)
some_there f (Some x) y e = (x, refl, some_is _ _ e)

-- the shapes of the keywords make no difference to the edges of a plan
form_edges_shaped : {K S : Type 0} (shape : K → S) (x : NodePart K) → form_edges (shaped_part shape x).form ≡ form_edges x.form
form_edges_shaped shape x = elim x.form as (λ f. form_edges (shaped_form shape f) ≡ form_edges f) [ node_keyword m es ↦ refl | node_reference e ↦ refl ]

parts_edges : {K S : Type 0} (shape : K → S) (xs : List (NodePart K)) → flat_map (λ x. form_edges x.form) (map (shaped_part shape) xs) ≡ flat_map (λ x. form_edges x.form) xs
parts_edges shape [] = refl
parts_edges shape (x ∷ xs) = rw (form_edges_shaped shape x, parts_edges shape xs) refl

edges_shaped : {K S : Type 0} (shape : K → S) (p : NodePlan K) → node_edges (shaped shape p) ≡ node_edges p
edges_shaped shape node_always = refl
edges_shaped shape node_never = refl
edges_shaped shape (node_these xs) = parts_edges shape xs

-- ---- the definitions' table depends only on what a clone has in common
module _ {S : Type 0} where
  abbrev counted : List (ShapedNode S) → ℕ
  counted [] = 0
  counted (n ∷ ns) = cond (is_some n.plan) 1 0 + counted ns

  abbrev last_shaped_round : List (ShapedNode S) → ℕ
  last_shaped_round [] = 0
  last_shaped_round (n ∷ ns) = max (unwrap_or n.round 0) (last_shaped_round ns)

  abbrev last_shaped_order : List (ShapedNode S) → ℕ
  last_shaped_order [] = 0
  last_shaped_order (n ∷ ns) = max n.order (last_shaped_order ns)

  abbrev shaped_rank : List (ShapedNode S) → ShapedNode S → ℕ
  shaped_rank ns n = cond (is_some n.plan) (suc (cond n.settled n.order ((suc (last_shaped_round ns) - unwrap_or n.round 0) * suc (last_shaped_order ns) + n.order))) 0

  abbrev shaped_plan : Option (ShapedNode S) → NodePlan S
  shaped_plan None = node_always
  shaped_plan (Some n) = unwrap_or n.plan node_always

  abbrev shaped_absolute : ShapedNode S → Text → Option Text
  shaped_absolute n location = option_map (λ base. base ++ (35 ∷ encoded (drop n.start location))) n.base

  abbrev numbered_nodes : List (ShapedNode S) → Nodes S
  numbered_nodes ns = record {
    entries = λ i. shaped_plan (slice_get ns i);
    location = λ i. unwrap_or (option_map (λ n. n.location) (slice_get ns i)) [];
    absolute = λ i t. unwrap_or (option_map (λ n. shaped_absolute n t) (slice_get ns i)) None;
    annotations = λ i. option_and_then (λ n. n.annotations) (slice_get ns i);
    rank = λ i. unwrap_or (option_map (shaped_rank ns) (slice_get ns i)) 0;
  }

  same_tables : {a a' : ℕ → NodePlan S} {b b' : ℕ → Text} {c c' : ℕ → Text → Option Text} {d d' : ℕ → Option Data} {e e' : ℕ → ℕ} → a ≡ a' → b ≡ b' → c ≡ c' → d ≡ d' → e ≡ e'
      → let x : Nodes S = record { entries = a; location = b; absolute = c; annotations = d; rank = e } in let y : Nodes S = record { entries = a'; location = b'; absolute = c'; annotations = d'; rank = e' } in x ≡ y
  same_tables p q r s t = rw (p, q, r, s, t) refl

module _ {K S : Type 0} (shape : K → S) where
  -- a number of one table has the same node in the other
  other_at : (ms ns : List (NodeEntry K)) → shaped_nodes shape ms ≡ shaped_nodes shape ns → (i : ℕ) (m : NodeEntry K) → slice_get ms i ≡ Some m → (n : NodeEntry K) × (slice_get ns i ≡ Some n) × (shaped_node shape n ≡ shaped_node shape m)
  other_at ms ns e i m at =
      some_there (shaped_node shape) (slice_get ns i) (shaped_node shape m) (sym (slice_get-map (shaped_node shape) ns i) ∙ ap (λ xs. slice_get xs i) (sym e) ∙ slice_get-map (shaped_node shape) ms i ∙ ap (option_map (shaped_node shape)) at)

  plan_there : (m n : NodeEntry K) → shaped_node shape n ≡ shaped_node shape m → (p : NodePlan K) → m.plan ≡ Some p → (q : NodePlan K) × (n.plan ≡ Some q) × (shaped shape q ≡ shaped shape p)
  plan_there m n e p at = some_there (shaped shape) n.plan (shaped shape p) (ap (λ (x : ShapedNode S). x.plan) e ∙ ap (option_map (shaped shape)) at)

  plan_missing : (m n : NodeEntry K) → shaped_node shape n ≡ shaped_node shape m → m.plan ≡ None → n.plan ≡ None
  plan_missing m n e at =
      let h : option_map (shaped shape) n.plan ≡ None = ap (λ (x : ShapedNode S). x.plan) e ∙ ap (option_map (shaped shape)) at in
      let go : (o : Option (NodePlan K)) → option_map (shaped shape) o ≡ None → o ≡ None = elim [ None ↦ λ h. refl | Some q ↦ λ h. absurd (let f : ⊥ = cc in f) ] in
      go n.plan h

  leads_same : (round : ℕ) (m n x y : NodeEntry K) → shaped_node shape n ≡ shaped_node shape m → shaped_node shape x ≡ shaped_node shape y → Leads round n x → Leads round m y
  leads_same round m n x y e d l =
      let settled : m.settled ≡ n.settled = sym (ap (λ (z : ShapedNode S). z.settled) e) in
      let order : m.order ≡ n.order = sym (ap (λ (z : ShapedNode S). z.order) e) in
      let settled' : y.settled ≡ x.settled = sym (ap (λ (z : ShapedNode S). z.settled) d) in
      let order' : y.order ≡ x.order = sym (ap (λ (z : ShapedNode S). z.order) d) in
      let round' : y.round ≡ x.round = sym (ap (λ (z : ShapedNode S). z.round) d) in
      record {
        unfilled = λ none. let u = l.unfilled (plan_missing y x d none) in (settled ∙ u.0, λ q at. u.1 q (sym round' ∙ at));
        formed = λ p at. let t = plan_there y x d p at in rw (settled, order, settled', order', round') (l.formed t.0 t.1);
      }

  module _ (ms ns : List (NodeEntry K)) (same : shaped_nodes shape ms ≡ shaped_nodes shape ns) where
    edge_leads : (round : ℕ) (m n : NodeEntry K) → shaped_node shape n ≡ shaped_node shape m → (e : NodeEdge) → EdgeLeads ns round n e → EdgeLeads ms round m e
    edge_leads round m n is e l =
        let o = other_at ns ms (sym same) e.node l.entry l.at in
        record { entry = o.0; at = o.1; unguarded = λ g. leads_same round m n l.entry o.0 is (sym o.2) (l.unguarded g) }

    node_leads : (finished : ℕ) (m n : NodeEntry K) (p q : NodePlan K) → shaped_node shape n ≡ shaped_node shape m → shaped shape q ≡ shaped shape p → NodeLeads ns finished n q → NodeLeads ms finished m p
    node_leads finished m n p q is plans l =
        let edges : node_edges q ≡ node_edges p = sym (edges_shaped shape q) ∙ ap node_edges plans ∙ edges_shaped shape p in
        record {
          round = l.round;
          begun = sym (ap (λ (z : ShapedNode S). z.round) is) ∙ l.begun;
          before = subst (λ k. k < finished) (ap (λ (z : ShapedNode S). z.order) is) l.before;
          leads = subst (All (EdgeLeads ms l.round m)) edges (λ k d w. edge_leads l.round m n is _ (l.leads k d w));
        }

  is_some_shaped : (o : Option (NodePlan K)) → is_some o ≡ is_some (option_map (shaped shape) o)
  is_some_shaped None = refl
  is_some_shaped (Some p) = refl

  count_shaped : (ns : List (NodeEntry K)) → filled_count ns ≡ counted (shaped_nodes shape ns)
  count_shaped [] = refl
  count_shaped (n ∷ ns) = rw (is_some_shaped n.plan, count_shaped ns) refl

  pub clone_ordered : (ms ns : List (NodeEntry K)) (finished : ℕ) → shaped_nodes shape ms ≡ shaped_nodes shape ns → IsOrdered ns finished → IsOrdered ms finished
  clone_ordered ms ns finished same o = record {
    ordered = λ i m p at is.
        let n = other_at ms ns same i m at in
        let q = plan_there m n.0 n.2 p is in
        node_leads ms ns same finished m n.0 p q.0 n.2 q.2 (o.ordered i n.0 q.0 n.1 q.1);
    count = o.count ∙ count_shaped ns ∙ ap counted (sym same) ∙ sym (count_shaped ms);
  }

  rounds_shaped : (ns : List (NodeEntry K)) → last_round ns ≡ last_shaped_round (shaped_nodes shape ns)
  rounds_shaped [] = refl
  rounds_shaped (n ∷ ns) = ap (max (unwrap_or n.round 0)) (rounds_shaped ns)

  orders_shaped : (ns : List (NodeEntry K)) → last_order ns ≡ last_shaped_order (shaped_nodes shape ns)
  orders_shaped [] = refl
  orders_shaped (n ∷ ns) = ap (max n.order) (orders_shaped ns)

  rank_shaped : (ns : List (NodeEntry K)) (n : NodeEntry K) → rank_of ns n ≡ shaped_rank (shaped_nodes shape ns) (shaped_node shape n)
  rank_shaped ns n = rw (is_some_shaped n.plan, rounds_shaped ns, orders_shaped ns) refl

  plan_shaped : (o : Option (NodePlan K)) → shaped shape (unwrap_or o node_always) ≡ unwrap_or (option_map (shaped shape) o) node_always
  plan_shaped None = refl
  plan_shaped (Some p) = refl

  entry_shaped : (o : Option (NodeEntry K)) → shaped shape (plan_in o) ≡ shaped_plan (option_map (shaped_node shape) o)
  entry_shaped None = refl
  entry_shaped (Some n) = plan_shaped n.plan

  location_shaped : (o : Option (NodeEntry K)) → unwrap_or (option_map (λ n. n.location) o) [] ≡ unwrap_or (option_map (λ n. n.location) (option_map (shaped_node shape) o)) []
  location_shaped None = refl
  location_shaped (Some n) = refl

  absolute_shaped : (t : Text) (o : Option (NodeEntry K)) → unwrap_or (option_map (λ n. absolute_in n t) o) None ≡ unwrap_or (option_map (λ n. shaped_absolute n t) (option_map (shaped_node shape) o)) None
  absolute_shaped t None = refl
  absolute_shaped t (Some n) = refl

  annotations_shaped : (o : Option (NodeEntry K)) → option_and_then (λ n. option_map view n.annotations) o ≡ option_and_then (λ n. n.annotations) (option_map (shaped_node shape) o)
  annotations_shaped None = refl
  annotations_shaped (Some n) = refl

  ranks_shaped : (ns : List (NodeEntry K)) (o : Option (NodeEntry K)) → unwrap_or (option_map (rank_of ns) o) 0 ≡ unwrap_or (option_map (shaped_rank (shaped_nodes shape ns)) (option_map (shaped_node shape) o)) 0
  ranks_shaped ns None = refl
  ranks_shaped ns (Some n) = rank_shaped ns n

  here : (ns : List (NodeEntry K)) (i : ℕ) → option_map (shaped_node shape) (slice_get ns i) ≡ slice_get (shaped_nodes shape ns) i
  here ns i = sym (slice_get-map (shaped_node shape) ns i)

  numbered_shaped : (ns : List (NodeEntry K)) → numbered shape ns ≡ numbered_nodes (shaped_nodes shape ns)
  numbered_shaped ns = same_tables
      (fun_ext (λ i. entry_shaped (slice_get ns i) ∙ ap shaped_plan (here ns i)))
      (fun_ext (λ i. location_shaped (slice_get ns i) ∙ ap (λ o. unwrap_or (option_map (λ n. n.location) o) []) (here ns i)))
      (fun_ext (λ i. fun_ext (λ t. absolute_shaped t (slice_get ns i) ∙ ap (λ o. unwrap_or (option_map (λ n. shaped_absolute n t) o) None) (here ns i))))
      (fun_ext (λ i. annotations_shaped (slice_get ns i) ∙ ap (option_and_then (λ n. n.annotations)) (here ns i)))
      (fun_ext (λ i. ranks_shaped ns (slice_get ns i) ∙ ap (λ o. unwrap_or (option_map (shaped_rank (shaped_nodes shape ns)) o) 0) (here ns i)))

  pub clone_numbered : (ms ns : List (NodeEntry K)) → shaped_nodes shape ms ≡ shaped_nodes shape ns → numbered shape ms ≡ numbered shape ns
  clone_numbered ms ns same = numbered_shaped ms ∙ ap numbered_nodes same ∙ sym (numbered_shaped ns)

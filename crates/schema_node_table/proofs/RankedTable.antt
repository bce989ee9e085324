-- An ordered table is ranked, as the definitions require.
use Rattle.std.proofs.Common.{◌≡◌, ℕ, zero, suc, ◌+◌, ◌-◌, ◌*◌, ◌<◌, ◌≤◌, Bool, true, false, cond, List, [], ◌∷◌, length, refl, sym, ◌∙◌, ap, subst, arith}
use Rattle.std.proofs.Common.{⊎_elim}
use Rattle.std.proofs.Math.Nat.{mul-le-mul_right, le-max_left, le-max_right}
use Rattle.std.specs.Prelude.{Option, Some, None, slice_get, Contains, unwrap_or, option_map, is_some, max, ◌++◌}
use Rattle.std.proofs.lemmas.List.Elements.{All-contains}
use Rattle.std.proofs.lemmas.Option.{slice_get_within}
use Rattle.theory_definitions.specs.Guarded.{NodeEdge, NodeForm, node_keyword, node_reference, NodePart, NodePlan, node_always, node_never, node_these, node_edges, form_edges}
use Rattle.theory_meaning.specs.Numbered.{Ranked}
use Rattle.schema_node_table.specs.NodeTable.{NodeEntry, Leads, EdgeLeads, IsOrdered, last_round, last_order, rank_of, shaped, shaped_form, numbered, plan_in}
use Rattle.schema_node_table.proofs.NodePlaces.{some_is}
use Rattle.schema_node_table.proofs.EdgesMade.{found}

form_edges-shaped : {K S : Type 0} (shape : K → S) (x : NodeForm K) → form_edges (shaped_form shape x) ≡ form_edges x
form_edges-shaped shape (node_keyword m es) = refl
form_edges-shaped shape (node_reference e) = refl

part_edges-shaped : {K S : Type 0} (shape : K → S) (xs : List (NodePart K)) → node_edges (shaped shape (node_these xs)) ≡ node_edges (node_these xs)
part_edges-shaped shape [] = refl
part_edges-shaped {K} shape (x ∷ xs) = rw (form_edges-shaped shape x.form) (ap (λ ys. form_edges x.form ++ ys) (part_edges-shaped shape xs))

-- the shapes of the keywords change no edge
pub node_edges-shaped : {K S : Type 0} (shape : K → S) (plan : NodePlan K) → node_edges (shaped shape plan) ≡ node_edges plan
node_edges-shaped shape node_always = refl
node_edges-shaped shape node_never = refl
node_edges-shaped shape (node_these xs) = part_edges-shaped shape xs

-- ---- a rank as a number: the rounds to go, the size of a round, and the order

abbrev ranked : Bool → ℕ → ℕ → ℕ → ℕ
ranked settled rounds size order = cond settled order (rounds * size + order)

at_least : (s : Bool) (rounds size order : ℕ) → order ≤ ranked s rounds size order
at_least true rounds size order = omega arith
at_least false rounds size order = omega arith

at_most : (s : Bool) (rounds size order : ℕ) → ranked s rounds size order ≤ rounds * size + order
at_most true rounds size order = omega arith
at_most false rounds size order = omega arith

-- an earlier round is greater by a whole round
earlier : (a b size : ℕ) → a < b → a * size + size ≤ b * size
earlier a b size l =
    let more : suc a * size ≤ b * size = mul-le-mul_right size (let k : suc a ≤ b = omega arith in k) in
    let one : suc a * size ≡ a * size + size = omega arith in
    omega arith

settled_first : (s s' : Bool) (a b size x y : ℕ) → s' ≡ true → y < x → ranked s' b size y < ranked s a size x
settled_first s s' a b size x y first l = rw first (let h = at_least s a size x in omega arith)

same_round : (s s' : Bool) (a b size x y : ℕ) → s ≡ false → b ≡ a → y < x → ranked s' b size y < ranked s a size x
same_round s s' a b size x y rest e l = rw rest (rw e (let h = at_most s' a size y in omega arith))

later_round : (s s' : Bool) (a b size x y : ℕ) → s ≡ false → b < a → y < size → ranked s' b size y < ranked s a size x
later_round s s' a b size x y rest l within = rw rest (let h = at_most s' b size y in let k = earlier b a size l in omega arith)

-- ---- the greatest round and order of a table bound each node's

order_bound : {K : Type 0} (ns : List (NodeEntry K)) (i : ℕ) (n : NodeEntry K) → slice_get ns i ≡ Some n → n.order ≤ last_order ns
order_bound [] i n at = absurd (let f : ⊥ = cc in f)
order_bound {K} (x ∷ xs) zero n at = subst (λ (m : NodeEntry K). m.order ≤ max x.order (last_order xs)) (some_is x n at) (le-max_left x.order (last_order xs))
order_bound (x ∷ xs) (suc i) n at = let r = order_bound xs i n at in let m = le-max_right x.order (last_order xs) in omega (arith, r, m)

round_bound : {K : Type 0} (ns : List (NodeEntry K)) (i : ℕ) (n : NodeEntry K) → slice_get ns i ≡ Some n → unwrap_or n.round 0 ≤ last_round ns
round_bound [] i n at = absurd (let f : ⊥ = cc in f)
round_bound {K} (x ∷ xs) zero n at = subst (λ (m : NodeEntry K). unwrap_or m.round 0 ≤ max (unwrap_or x.round 0) (last_round xs)) (some_is x n at) (le-max_left (unwrap_or x.round 0) (last_round xs))
round_bound (x ∷ xs) (suc i) n at = let r = round_bound xs i n at in let m = le-max_right (unwrap_or x.round 0) (last_round xs) in omega (arith, r, m)

-- ---- an unguarded edge leads to a lower rank

to_go : (rounds a b : ℕ) → a < b → b ≤ rounds → suc rounds - b < suc rounds - a
to_go rounds a b l h = omega arith

module _ {K : Type 0} (ns : List (NodeEntry K)) (i j round : ℕ) (n x : NodeEntry K) (plan : NodePlan K) (at : slice_get ns i ≡ Some n) (at' : slice_get ns j ≡ Some x) (is : n.plan ≡ Some plan) (of : n.round ≡ Some round) (l : Leads round n x) where
  abbrev rounds : NodeEntry K → ℕ
  rounds m = suc (last_round ns) - unwrap_or m.round 0

  abbrev size : ℕ
  size = suc (last_order ns)

  rank_formed : (m : NodeEntry K) (p : NodePlan K) → m.plan ≡ Some p → rank_of ns m ≡ suc (ranked m.settled (rounds m) size m.order)
  rank_formed m p e = ap (λ (o : Option (NodePlan K)). cond (is_some o) (suc (ranked m.settled (rounds m) size m.order)) 0) e

  falls : (p : NodePlan K) → x.plan ≡ Some p → ranked x.settled (rounds x) size x.order < ranked n.settled (rounds n) size n.order
  falls p e =
      let of_n : unwrap_or n.round 0 ≡ round = ap (λ o. unwrap_or o 0) of in
      ⊎_elim
      (λ s. settled_first n.settled x.settled (rounds n) (rounds x) size n.order x.order s.0 s.1)
      (λ u.
      let of_x : unwrap_or x.round 0 ≡ u.1.0 = ap (λ o. unwrap_or o 0) u.1.1 in
      ⊎_elim
      (λ r. same_round n.settled x.settled (rounds n) (rounds x) size n.order x.order u.0 (ap (λ k. suc (last_round ns) - k) (of_x ∙ sym r.0 ∙ sym of_n)) r.1)
      (λ r. later_round n.settled x.settled (rounds n) (rounds x) size n.order x.order u.0 (to_go (last_round ns) (unwrap_or n.round 0) (unwrap_or x.round 0) (omega (arith, of_n, of_x, r)) (round_bound ns j x at')) (let b = order_bound ns j x at' in omega (arith, b)))
      u.1.2)
      (l.formed p e)

  pub rank_falls : rank_of ns x < rank_of ns n
  rank_falls =
      let above = rank_formed n plan is in
      let go : (o : Option (NodePlan K)) → x.plan ≡ o → rank_of ns x < rank_of ns n = elim [
        | None ↦ λ e. let none : rank_of ns x ≡ 0 = ap (λ (o : Option (NodePlan K)). cond (is_some o) (suc (ranked x.settled (rounds x) size x.order)) 0) e in omega (arith, none, above)
        | Some p ↦ λ e. let below = rank_formed x p e in let f = falls p e in omega (arith, below, above, f)
      ] in
      go x.plan refl

no_edge : {e : NodeEdge} → Contains [] e → ⊥
no_edge c = omega (arith, c.1)

pub ranked_table : {K S : Type 0} (shape : K → S) (ns : List (NodeEntry K)) (finished : ℕ) → IsOrdered ns finished → Ranked (numbered shape ns) (length ns)
ranked_table {K} {S} shape ns finished o i h e has =
    let there = found ns i h in
    let at : slice_get ns i ≡ Some there.0 = there.1 in
    let here : Contains (node_edges (plan_in (Some there.0))) e = subst (λ es. Contains es e) (node_edges-shaped shape (plan_in (Some there.0))) (subst (λ (m : Option (NodeEntry K)). Contains (node_edges (shaped shape (plan_in m))) e) at has) in
    let rank_at : (j : ℕ) (m : NodeEntry K) → slice_get ns j ≡ Some m → (numbered shape ns).rank j ≡ rank_of ns m = λ j m at'. ap (λ (m : Option (NodeEntry K)). unwrap_or (option_map (rank_of ns) m) 0) at' in
    let go : (p : Option (NodePlan K)) → there.0.plan ≡ p → Contains (node_edges (unwrap_or p node_always)) e → (e.node < length ns) × (e.guarded ≡ false → (numbered shape ns).rank e.node < (numbered shape ns).rank i)
    = elim [
      | None ↦ λ q c. absurd (no_edge c)
      | Some plan ↦ λ q c.
          let leads = o.ordered i there.0 plan at q in
          let edge = All-contains (EdgeLeads ns leads.round there.0) (node_edges plan) e leads.leads c in (
            slice_get_within ns e.node edge.entry edge.at,
            λ g.
                let f = rank_falls ns i e.node leads.round there.0 edge.entry plan at edge.at q leads.begun (edge.unguarded g) in
                let rank_e = rank_at e.node edge.entry edge.at in
                let rank_i = rank_at i there.0 at in omega (arith, rank_e, rank_i, f),
          )
    ] in
    go there.0.plan refl here

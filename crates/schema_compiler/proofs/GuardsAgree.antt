-- The state of an edge's target determines whether it is guarded, so edges between the same two
-- numbers are guarded alike.
use Rattle.std.proofs.Common.{◌≡◌, ℕ, ◌<◌, List, [], length, map, refl, ap, sym, ◌∙◌, subst, arith}
use Rattle.std.specs.Prelude.{Bool, Contains, None, Option, Some, option_map, slice_get, unwrap_or}
use Rattle.std.proofs.lemmas.Option.{slice_get-map}
use Rattle.theory_definitions.specs.Guarded.{NodeEdge, NodePlan, node_always, node_edges}
use Rattle.schema_node_table.specs.NodeTable.{NodeEntry, plan_in, shaped}
use Rattle.schema_node_table.proofs.RankedTable.{node_edges-shaped}
use Rattle.schema_compiler.specs.Finding.{GuardsByStanding, Standing, guards_edge, standing_of, waits}
use Rattle.schema_compiler.specs.UnderWay.{EdgesWithin}
use Rattle.schema_keys.proofs.Lists.{in_of, there}

-- the state of a number among these
abbrev pub standing_at : List Standing → ℕ → Standing
standing_at standings i = unwrap_or (slice_get standings i) waits

-- whether an edge from a number to another is guarded
abbrev pub guard_between : List Standing → ℕ → ℕ → Bool
guard_between standings i j = guards_edge (standing_at standings i) (standing_at standings j)

no_edge : {e : NodeEdge} → Contains [] e → ⊥
no_edge c = omega (arith, c.1)

module _ {C D : Type 0} (nodes : List (NodeEntry C)) (shape : C → D) (guards : GuardsByStanding nodes) (inside : EdgesWithin nodes) where
  abbrev pub EdgeOf : ℕ → NodeEdge → Type 0
  EdgeOf i e = Contains (node_edges (shaped shape (plan_in (slice_get nodes i)))) e

  stands_so : (i : ℕ) (n : NodeEntry C) → slice_get nodes i ≡ Some n → standing_at (map standing_of nodes) i ≡ standing_of n
  stands_so i n at = ap (λ (o : Option Standing). unwrap_or o waits) (slice_get-map standing_of nodes i ∙ ap (λ (o : Option (NodeEntry C)). option_map standing_of o) at)

  pub guarded_so : (i : ℕ) → i < length nodes → (e : NodeEdge) → EdgeOf i e → e.guarded ≡ guard_between (map standing_of nodes) i e.node
  guarded_so i lt e has =
      let (n, at) = there nodes i lt in
      let here : Contains (node_edges (plan_in (Some n))) e = subst (λ es. Contains es e) (node_edges-shaped shape (plan_in (Some n))) (subst (λ (o : Option (NodeEntry C)). Contains (node_edges (shaped shape (plan_in o))) e) at has) in
      let go : (o : Option (NodePlan C)) → n.plan ≡ o → Contains (node_edges (unwrap_or o node_always)) e → e.guarded ≡ guard_between (map standing_of nodes) i e.node = elim [
        | None ↦ λ q c. absurd (no_edge c)
        | Some plan ↦ λ q c.
            let is_in = in_of (node_edges plan) e c in
            let (m, to) = there nodes e.node (inside i n plan e at q is_in) in
            let from = stands_so i n at in
            let target = stands_so e.node m to in
            guards i n plan e m at q is_in to ∙ sym (λ j. guards_edge (from j) (target j))
      ] in
      go n.plan refl here

  pub guards_agree : (i : ℕ) → i < length nodes → (a b : NodeEdge) → EdgeOf i a → EdgeOf i b → a.node ≡ b.node → a.guarded ≡ b.guarded
  guards_agree i lt a b has_a has_b same = guarded_so i lt a has_a ∙ ((λ j. guard_between (map standing_of nodes) i (same j)) ∙ sym (guarded_so i lt b has_b))

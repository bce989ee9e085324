-- The worked example, by computation: each key of the cycle requests one other, and the rule
-- decides which edges are guarded.
use Rattle.std.proofs.Common.{◌≡◌, ◌≢◌, ◌<◌, ℕ, zero, suc, true, false, List, [], ◌∷◌, length, map, refl, ap, sym, ◌∙◌, subst, arith}
use Rattle.std.proofs.lemmas.List.{length-map}
use Rattle.std.specs.Prelude.{Option, Some, option_map, slice_get, unwrap_or}
use Rattle.std.proofs.lemmas.Option.{slice_get-map, slice_get_within}
use Rattle.std.specs.Fmt.{digits}
use Rattle.std.specs.Str.Lossy.{utf8_lossy, utf8_valid_len}
use Rattle.std.specs.Str.{chars, is_utf8}
use lib.Utf8.{encode}
use Rattle.percent_encoding.specs.Percent.{percent_decode}
use Rattle.theory_definitions.specs.Instance.{Text}
use Rattle.theory_definitions.specs.Plan.{Key}
use Rattle.theory_meaning.specs.Reach.{asked_edges}
use Rattle.theory_definitions.specs.Guarded.{NodeEdge, NodePlan, node_edges}
use Rattle.theory_meaning.specs.RowsWorked.{Word}
use Rattle.schema_node_table.specs.NodeTable.{NodeEntry}
use Rattle.schema_keys.specs.Compiling.{In}
use Rattle.schema_compiler.specs.Finding.{GuardsByStanding, Standing, guards_edge, nests, standing_of, waits}
use Rattle.schema_compiler.specs.Rows as row
use Rattle.schema_compiler.specs.Rows.{circle, first_edge, inner_key, last_key, nested_standings, root_key, waiting_standings}
use Rattle.schema_compiler.proofs.CircleFound as found
use Rattle.schema_keys.proofs.Lists.{there}

pub circle_closes : row.CircleCloses
unfolding digits percent_decode utf8_lossy utf8_valid_len is_utf8 chars encode
circle_closes = refl

root_asks : asked_edges circle root_key ≡ first_edge root_key ∷ []
unfolding digits percent_decode utf8_lossy utf8_valid_len is_utf8 chars encode
root_asks = refl

inner_asks : asked_edges circle inner_key ≡ first_edge inner_key ∷ []
unfolding digits percent_decode utf8_lossy utf8_valid_len is_utf8 chars encode
inner_asks = refl

last_asks : asked_edges circle last_key ≡ first_edge last_key ∷ []
unfolding digits percent_decode utf8_lossy utf8_valid_len is_utf8 chars encode
last_asks = refl

root_nests : nests (first_edge root_key) ≡ true
unfolding digits percent_decode utf8_lossy utf8_valid_len is_utf8 chars encode
root_nests = refl

inner_stands_inside : nests (first_edge inner_key) ≡ false
unfolding digits percent_decode utf8_lossy utf8_valid_len is_utf8 chars encode
inner_stands_inside = refl

-- the keys differ in the lengths of their locations
abbrev reach_of : Key Text → ℕ
reach_of k = length k.location

root_reach : reach_of root_key ≡ 0
unfolding digits percent_decode utf8_lossy utf8_valid_len is_utf8 chars encode
root_reach = refl

inner_reach : reach_of inner_key ≡ 8
unfolding digits percent_decode utf8_lossy utf8_valid_len is_utf8 chars encode
inner_reach = refl

last_reach : reach_of last_key ≡ 12
unfolding digits percent_decode utf8_lossy utf8_valid_len is_utf8 chars encode
last_reach = refl

-- keys with locations of different lengths differ
apart : (a b : Key Text) (m n : ℕ) → reach_of a ≡ m → reach_of b ≡ n → m < n → a ≢ b
apart a b m n far_a far_b lt same = let one : reach_of a ≡ reach_of b = ap reach_of same in absurd (omega (arith, far_a, far_b, lt, one))

root_inner : root_key ≢ inner_key
root_inner = apart root_key inner_key 0 8 root_reach inner_reach (omega arith)

root_last : root_key ≢ last_key
root_last = apart root_key last_key 0 12 root_reach last_reach (omega arith)

inner_last : inner_key ≢ last_key
inner_last = apart inner_key last_key 8 12 inner_reach last_reach (omega arith)

pub found_nested : row.FoundNested
found_nested = found.found_nested circle root_key (first_edge root_key) (first_edge inner_key) (first_edge last_key) root_asks inner_asks last_asks circle_closes root_nests inner_stands_inside root_inner root_last inner_last

pub found_waiting : row.FoundWaiting
found_waiting = found.found_waiting circle root_key (first_edge root_key) (first_edge inner_key) (first_edge last_key) root_asks inner_asks last_asks circle_closes root_nests inner_stands_inside root_inner root_last inner_last

-- ---- which edges are guarded

module _ (standings : List Standing) (nodes : List (NodeEntry Word)) (stand : map standing_of nodes ≡ standings) (guards : GuardsByStanding nodes) where
  stands_so : (i : ℕ) (n : NodeEntry Word) → slice_get nodes i ≡ Some n → slice_get standings i ≡ Some (standing_of n)
  stands_so i n at = subst (λ ss. slice_get ss i ≡ Some (standing_of n)) stand (slice_get-map standing_of nodes i ∙ ap (λ (o : Option (NodeEntry Word)). option_map standing_of o) at)

  -- the state of a number that exists
  standing_there : (i : ℕ) (s : Standing) (n : NodeEntry Word) → slice_get standings i ≡ Some s → slice_get nodes i ≡ Some n → standing_of n ≡ s
  standing_there i s n is at = let both : Some (standing_of n) ≡ Some s = sym (stands_so i n at) ∙ is in ap (λ (o : Option Standing). unwrap_or o waits) both

  node_there : (i : ℕ) (s : Standing) → slice_get standings i ≡ Some s → (n : NodeEntry Word) × (slice_get nodes i ≡ Some n)
  node_there i s is = there nodes i (let l = slice_get_within standings i s is in let e : length (map standing_of nodes) ≡ length standings = ap length stand in let m = length-map nodes standing_of in omega (arith, l, e, m))

  guarded_so : (i j : ℕ) (s t : Standing) → slice_get standings i ≡ Some s → slice_get standings j ≡ Some t → (n : NodeEntry Word) (p : NodePlan Word) (e : NodeEdge)
      → slice_get nodes i ≡ Some n → n.plan ≡ Some p → In (node_edges p) e → e.node ≡ j → e.guarded ≡ guards_edge s t
  guarded_so i j s t is js n p e at formed is_in to =
      let target = subst (λ m. slice_get standings m ≡ Some t) (sym to) js in
      let (m, at_m) = node_there e.node t target in
      let from = standing_there i s n is at in
      let onto = standing_there e.node t m target at_m in
      guards i n p e m at formed is_in at_m ∙ (λ k. guards_edge (from k) (onto k))

pub nested_way_back : row.OnlyTheWayBack nested_standings
nested_way_back nodes stand guards zero n p e at formed is_in = (λ lt to. guarded_so nested_standings nodes stand guards 0 1 _ _ refl refl n p e at formed is_in to, λ two. absurd (omega arith))
nested_way_back nodes stand guards (suc zero) n p e at formed is_in = (λ lt to. guarded_so nested_standings nodes stand guards 1 2 _ _ refl refl n p e at formed is_in to, λ two. absurd (omega arith))
nested_way_back nodes stand guards (suc (suc zero)) n p e at formed is_in = (λ lt. absurd (omega arith), λ two to. guarded_so nested_standings nodes stand guards 2 0 _ _ refl refl n p e at formed is_in to)
nested_way_back nodes stand guards (suc (suc (suc i))) n p e at formed is_in = (λ lt. absurd (omega arith), λ two. absurd (omega arith))

pub waiting_way_back : row.OnlyTheWayBack waiting_standings
waiting_way_back nodes stand guards zero n p e at formed is_in = (λ lt to. guarded_so waiting_standings nodes stand guards 0 1 _ _ refl refl n p e at formed is_in to, λ two. absurd (omega arith))
waiting_way_back nodes stand guards (suc zero) n p e at formed is_in = (λ lt to. guarded_so waiting_standings nodes stand guards 1 2 _ _ refl refl n p e at formed is_in to, λ two. absurd (omega arith))
waiting_way_back nodes stand guards (suc (suc zero)) n p e at formed is_in = (λ lt. absurd (omega arith), λ two to. guarded_so waiting_standings nodes stand guards 2 0 _ _ refl refl n p e at formed is_in to)
waiting_way_back nodes stand guards (suc (suc (suc i))) n p e at formed is_in = (λ lt. absurd (omega arith), λ two. absurd (omega arith))

-- The worklist is worked off number by number: how a number is passed, how a round ends, and how it
-- starts.
use Rattle.std.proofs.Common.{◌≡◌, ◌≢◌, ℕ, suc, zero, ◌<◌, ◌≤◌, inl, inr, List, [], ◌∷◌, ◌++◌, length, map, refl, ap, sym, ◌∙◌, subst, arith}
use Rattle.std.specs.Prelude.{Option, Some, None, false, option_map, slice_get, not, unwrap_or}
use Rattle.std.proofs.lemmas.Option.{slice_get-map, slice_get_within}
use Rattle.serde_json.specs.declared.value.Value.{Value}
use Rattle.theory_definitions.specs.Plan.{Edge, Key}
use Rattle.theory_meaning.specs.Reach.{Reached, asked_edges, at_first}
use Rattle.theory_meaning.specs.Refusals.{causes}
use Rattle.theory_definitions.specs.Guarded.{NodePlan, node_edges}
use Rattle.schema_node_table.specs.NodeTable.{Begins, Fills, IsBegun, IsFilled, MayBeFilled, NodeEntry, Waits, begun_in, filled, filled_count}
use Rattle.schema_keys.specs.Compiling.{Blames, Each, ReachedFrom, StandsBelow}
use Rattle.schema_keys.specs.Refusing.{Refused}
use Rattle.schema_compiler.specs.Filling.{HasFormOrWaits, IsGrown}
use Rattle.schema_compiler.specs.Finding.{Course, FindsAll, WorksOff, at_end, at_root, is_formed, is_open, passes_over, standing_of, waits}
use Rattle.schema_compiler.specs.Carried.{IsWell, Table, Task}
use Rattle.schema_compiler.specs.UnderWay.{Goes, course_of}
use Rattle.schema_compiler.specs.Working.{IsAtNumber, RefusesRootKey}
use Rattle.schema_keys.specs.declared.error.BuildError.{BuildError}
use Rattle.schema_compiler.specs.Reserving.{IsGivenUp}
use Rattle.schema_compiler.proofs.Reserving.{all_given_up}
use Rattle.schema_keys.proofs.Lists.{below_or, each_append, each_map, equal_or, get-append, get-set_other, get-set_same, some_is, there}
use Rattle.schema_compiler.proofs.Growing.{blames_key, from_key, reach_on, refusal_map}
use Rattle.schema_compiler.proofs.UnderWay.{course_is, may_be_filled, round_done, stands_waiting}

no_number : {A : Type 0} (i : ℕ) (x : A) → slice_get [] i ≡ Some x → ⊥
no_number i x e = let g : ⊥ = cc in g

-- a node that has its form does not wait
formed_stands : {C : Type 0} (n : NodeEntry C) (p : NodePlan C) → n.plan ≡ Some p → standing_of n ≡ waits → ⊥
formed_stands {C} n p is e =
    let go : (o : Option (NodePlan C)) → o ≡ Some p → elim o [ None ↦ elim n.round [ None ↦ waits | Some r ↦ is_open r ] | Some x ↦ is_formed (unwrap_or n.round 0) n.order n.settled ] ≡ waits → ⊥ = elim [
      | None ↦ λ h f. let g : ⊥ = cc in g
      | Some x ↦ λ h f. let g : ⊥ = cc in g
    ] in
    go n.plan is e

-- if nothing was numbered, every reached key that has its form or waits is new
from_nothing : {S C : Type 0} (P : Key S → Type 0) (keys : List (Key S)) (nodes : List (NodeEntry C)) → Each P keys → ((j : ℕ) (n : NodeEntry C) → slice_get nodes j ≡ Some n → HasFormOrWaits n) → IsGrown P [] keys [] nodes
from_nothing P keys nodes each stands = record { added = (keys, refl, each); stay = λ i n at. absurd (no_number i n at); filled = λ i n le at. stands i n at }

module _ {S K C : Type 0} (g : Task S K C) (root : Key S) where
  each_reached : (t : Table S C) (i : ℕ) → IsAtNumber g root t i → Each (Reached g.parts root) t.keys
  each_reached t i a = subst (Each (Reached g.parts root)) (sym a.grown.added.1) a.grown.added.2

  pub each_stands : (t : Table S C) (i : ℕ) → IsAtNumber g root t i → (j : ℕ) (n : NodeEntry C) → slice_get t.nodes j ≡ Some n → HasFormOrWaits n
  each_stands t i a j n at = a.grown.filled j n (omega arith) at

  each_at : (ks : List (Key S)) (j : ℕ) (q : Key S) → Each (Reached g.parts root) ks → slice_get ks j ≡ Some q → Reached g.parts root q
  each_at [] j q h at = absurd (no_number j q at)
  each_at (x ∷ ks) zero q h at = subst (Reached g.parts root) (some_is x q at) h.0
  each_at (x ∷ ks) (suc j) q h at = each_at ks j q h.1 at

  -- the root's key waits, and is the only one that is found
  pub at_first_number : (t : Table S C) (n : NodeEntry C) → IsWell g t → t.keys ≡ root ∷ [] → t.nodes ≡ n ∷ [] → n.plan ≡ None → n.round ≡ None → t.round ≡ 0 → t.depth ≡ 0 → t.loose ≡ false → t.reserved ≡ [] → IsAtNumber g root t 0
  at_first_number t n well keys nodes none unbegun round depth loose reserved =
      let only : (j : ℕ) (m : NodeEntry C) → slice_get t.nodes j ≡ Some m → m ≡ n = λ j m at. the_only j m (subst (λ (ns : List (NodeEntry C)). slice_get ns j ≡ Some m) nodes at) in
      let no_plan : (j : ℕ) (m : NodeEntry C) → slice_get t.nodes j ≡ Some m → m.plan ≡ None = λ j m at. ap (λ (x : NodeEntry C). x.plan) (only j m at) ∙ none in
      let no_round : (j : ℕ) (m : NodeEntry C) → slice_get t.nodes j ≡ Some m → m.round ≡ None = λ j m at. ap (λ (x : NodeEntry C). x.round) (only j m at) ∙ unbegun in
      let waiting : standing_of n ≡ waits = stands_waiting n none unbegun in
      let begins : course_of t ≡ at_root root = course_is (course_of t) (at_root root) keys (ap (map standing_of) nodes ∙ ap (λ s. s ∷ []) waiting) round depth loose in
      record {
        table = well;
        under_way = record {
          guards = λ i m p e x at formed inside there. absurd (let a = no_plan i m at in let f : ⊥ = cc in f);
          within = λ i m p e at formed inside. absurd (let a = no_plan i m at in let f : ⊥ = cc in f);
          rounds = λ i r m at is. absurd (let a = no_round i m at in let f : ⊥ = cc in f);
          opens = λ i r m at none' is. absurd (let a = no_round i m at in let f : ⊥ = cc in f);
          formed = λ i m p at formed. absurd (let a = no_plan i m at in let f : ⊥ = cc in f);
          nested = omega (arith, depth);
        };
        grown = from_nothing (Reached g.parts root) t.keys t.nodes (subst (Each (Reached g.parts root)) (sym keys) (at_first, tt)) (λ j m at. inr (no_plan j m at, no_round j m at));
        below = λ j l w. absurd (omega arith);
        rounds = λ j r m at is. absurd (let a = no_round j m at in let f : ⊥ = cc in f);
        first = ap (λ ks. slice_get ks 0) keys;
        given_up = subst (Each IsGivenUp) (sym reserved) tt;
        order = λ c works. subst (λ (d : Course S). WorksOff g.parts g.nested 0 d c) begins works;
      }
    where
      the_only : (j : ℕ) (m : NodeEntry C) → slice_get (n ∷ []) j ≡ Some m → m ≡ n
      the_only zero m at = sym (some_is n m at)
      the_only (suc j) m at = absurd (no_number j m at)

  -- a number that was begun is passed
  pub at_next_number : (t : Table S C) (i : ℕ) → IsAtNumber g root t i → i < length t.keys → IsBegun t.nodes i → IsAtNumber g root t (suc i)
  at_next_number t i a lt begun =
      let formed : IsFilled t.nodes i = elim (each_stands t i a i begun.0 begun.2) [
        | inl f ↦ (begun.0, f.0, begun.2, f.1)
        | inr w ↦ absurd (let r = begun.3 in let e = w.1 in let f : ⊥ = cc in f)
      ] in
      record {
        table = a.table;
        under_way = a.under_way;
        grown = a.grown;
        below = λ j l w. elim (equal_or j i) [ inl e ↦ subst (IsFilled t.nodes) (sym e) formed | inr ne ↦ a.below j (omega (arith, ne)) w ];
        rounds = λ j r n at is. let l = a.rounds j r n at is in omega arith;
        first = a.first;
        given_up = a.given_up;
        order = λ c works. a.order c (passes_over lt
            (λ e. formed_stands formed.0 formed.1 formed.3 (some_is (standing_of formed.0) waits (sym (slice_get-map standing_of t.nodes i ∙ ap (option_map standing_of) formed.2) ∙ e)))
            works);
      }

  -- a round has ended
  pub at_rounds_end : (t b d t' : Table S C) (k : Key S) (i : ℕ) (annotations : Option Value) (p : NodePlan C) → IsAtNumber g root t i → slice_get t.keys i ≡ Some k → Waits t.nodes i → Begins t.nodes i i b.nodes → b.keys ≡ t.keys → b.round ≡ i → b.depth ≡ 0 → b.loose ≡ false → b.reserved ≡ t.reserved → t'.reserved ≡ d.reserved
      → Goes g b d (asked_edges g.parts k) (node_edges p) → IsGrown (ReachedFrom g.parts (asked_edges g.parts k)) b.keys d.keys b.nodes d.nodes → IsWell g t'
      → Fills d.nodes i (not d.loose) annotations p t'.nodes → t'.keys ≡ d.keys → t'.round ≡ d.round → t'.depth ≡ d.depth → t'.loose ≡ d.loose → IsAtNumber g root t' (suc i)
  at_rounds_end t b d t' k i annotations p a at waiting begins b_keys b_round b_depth b_loose b_reserved reserved goes grown well fills keys round depth loose =
      let done = round_done g t b d t' k i annotations p a.table.lengths at waiting begins b_keys b_round b_depth b_loose goes fills keys round depth loose in
      let reached_k : Reached g.parts root k = each_at t.keys i k (each_reached t i a) at in
      let added : d.keys ≡ t.keys ++ grown.added.0 = grown.added.1 ∙ ap (λ ks. ks ++ grown.added.0) b_keys in
      let each : Each (Reached g.parts root) d.keys = subst (Each (Reached g.parts root)) (sym added) (each_append (Reached g.parts root) t.keys grown.added.0 (each_reached t i a)
      (each_map (ReachedFrom g.parts (asked_edges g.parts k)) (Reached g.parts root) grown.added.0 (λ q r. reach_on g.parts reached_k (from_key g.parts k q r)) grown.added.2)) in
      let now : NodeEntry C = filled fills.0 (filled_count d.nodes) (not d.loose) annotations p in
      let here : slice_get t'.nodes i ≡ Some now = ap (λ (ns : List (NodeEntry C)). slice_get ns i) fills.2 ∙ get-set_same d.nodes i now (slice_get_within d.nodes i fills.0 fills.1) in
      let others : (j : ℕ) → j ≢ i → slice_get t'.nodes j ≡ slice_get d.nodes j = λ j ne. ap (λ (ns : List (NodeEntry C)). slice_get ns j) fills.2 ∙ get-set_other d.nodes i j now ne in
      let early : (j : ℕ) (n : NodeEntry C) → j ≢ i → slice_get t.nodes j ≡ Some n → slice_get t'.nodes j ≡ Some n = λ j n ne old. others j ne ∙ goes.stay j n (ap (λ (ns : List (NodeEntry C)). slice_get ns j) begins.2 ∙ get-set_other t.nodes i j (begun_in begins.0 i) ne ∙ old) in
      let lengths = a.table.lengths in
      record {
        table = well;
        under_way = done.0;
        grown = from_nothing (Reached g.parts root) t'.keys t'.nodes (subst (Each (Reached g.parts root)) (sym keys) each) (λ j n there'. elim (equal_or j i) [
          | inl e ↦ subst (λ (x : NodeEntry C). HasFormOrWaits x) (some_is now n (sym here ∙ sym (ap (slice_get t'.nodes) e) ∙ there')) (inl (p, refl))
          | inr ne ↦ elim (below_or j (length t.nodes)) [
            | inl l ↦ let old = there t.nodes j l in each_stands t i a j n (old.1 ∙ sym (early j old.0 ne old.1) ∙ there')
            | inr le ↦ grown.filled j n (let e = ap length b_keys in omega (arith, e, le, lengths)) (sym (others j ne) ∙ there')
          ]
        ]);
        below = λ j l w. elim (equal_or j i) [
          | inl e ↦ (now, p, subst (λ m. slice_get t'.nodes m ≡ Some now) (sym e) here, refl)
          | inr ne ↦
              let f = a.below j (omega (arith, ne)) (let s = slice_get_within t.keys i k at in omega arith) in
              (f.0, f.1, early j f.0 ne f.2, f.3)
        ];
        rounds = λ j r n there' is. let l = done.0.rounds j r n there' is in let e = round ∙ goes.same_round ∙ b_round in omega arith;
        first = subst (λ ks. slice_get ks 0 ≡ Some root) (sym keys) (subst (λ ks. slice_get ks 0 ≡ Some root) (sym added) (get-append t.keys grown.added.0 0 root a.first));
        given_up = all_given_up t.reserved b.reserved d.reserved t'.reserved a.given_up b_reserved goes.reserves reserved;
        order = λ c works. a.order c (done.1 c works);
      }

  -- a refusal in a round is a refusal of the root's key
  pub round_refused : (t : Table S C) (k : Key S) (i : ℕ) (e : BuildError) → IsAtNumber g root t i → slice_get t.keys i ≡ Some k → Refused g.parts g.limit (asked_edges g.parts k) (causes g.parts k) t.keys e → RefusesRootKey g root e
  round_refused t k i e a at h =
      let reached_k : Reached g.parts root k = each_at t.keys i k (each_reached t i a) at in
      refusal_map g.limit (ReachedFrom g.parts (asked_edges g.parts k)) (Reached g.parts root) (Blames g.parts (asked_edges g.parts k) (causes g.parts k)) (StandsBelow g.parts root) [] t.keys t.keys
      (λ q r. reach_on g.parts reached_k (from_key g.parts k q r))
      (λ c b. let s = blames_key g.parts k c b in (s.0, reach_on g.parts reached_k s.1, s.2))
      refl (each_reached t i a) e h

  -- at the end every number has its form
  pub all_formed : (t : Table S C) (i : ℕ) → IsAtNumber g root t i → length t.keys ≤ i → (j : ℕ) (n : NodeEntry C) → slice_get t.nodes j ≡ Some n → (p : NodePlan C) × (n.plan ≡ Some p)
  all_formed t i a le j n at =
      let w = slice_get_within t.nodes j n at in
      let e = a.table.lengths in
      let f = a.below j (omega arith) w in
      (f.1, subst (λ (x : NodeEntry C). x.plan ≡ Some f.1) (some_is f.0 n (sym f.2 ∙ at)) f.3)

  -- and the keys were found in the one order
  pub all_found : (t : Table S C) (i : ℕ) → IsAtNumber g root t i → length t.keys ≤ i → FindsAll g.parts g.nested root t.keys (map standing_of t.nodes)
  all_found t i a le = (course_of t, a.order (course_of t) (at_end le), refl, refl)

  -- in a round, the number that it began with may get its form
  pub round_fills : (t b d : Table S C) (i : ℕ) (es : List (Edge S)) (p : NodePlan C) → Waits t.nodes i → Begins t.nodes i i b.nodes → b.round ≡ i → Goes g b d es (node_edges p) → MayBeFilled d.nodes i (not d.loose) p
  round_fills t b d i es p waiting begins round goes =
      let is : waiting.0 ≡ begins.0 = some_is waiting.0 begins.0 (sym waiting.1 ∙ begins.1) in
      let there = goes.stay i (begun_in begins.0 i) (ap (λ (ns : List (NodeEntry C)). slice_get ns i) begins.2 ∙ get-set_same t.nodes i (begun_in begins.0 i) (slice_get_within t.nodes i begins.0 begins.1)) in
      may_be_filled g d i (begun_in begins.0 i) p goes.under_way there (ap (λ (n : NodeEntry C). n.plan) (sym is) ∙ waiting.2) (ap (λ (r : ℕ). Some r) (sym (goes.same_round ∙ round))) goes.now

  -- the key of a number stays its key
  pub key_stays : (t d : Table S C) (k : Key S) (i : ℕ) (P : Key S → Type 0) → slice_get t.keys i ≡ Some k → IsGrown P t.keys d.keys t.nodes d.nodes → slice_get d.keys i ≡ Some k
  key_stays t d k i P at grown = subst (λ (ks : List (Key S)). slice_get ks i ≡ Some k) (sym grown.added.1) (get-append t.keys grown.added.0 i k at)

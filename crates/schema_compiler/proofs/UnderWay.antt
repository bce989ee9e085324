-- While keys are found: what holds of the edges that were made still holds after numbers are added,
-- begun and get their forms.
use Rattle.std.proofs.Common.{◌≡◌, ◌≢◌, ℕ, suc, ◌<◌, ◌≤◌, ◌⊎◌, ◌==◌, ◌&&◌, ◌||◌, not, inl, inr, Bool, true, false, List, [], ◌∷◌, ◌++◌, length, map, refl, ap, sym, ◌∙◌, subst, arith, true≢false, ⊎_elim}
use Rattle.std.specs.Prelude.{None, Option, Some, if◌then◌else◌, nat_le, slice_get, slice_set}
use Rattle.std.proofs.Math.Decide.{dec_lt}
use Rattle.std.proofs.lemmas.Bool.{eq-eqb, eqb-true, eqb-false, leb-true, le-leb}
use Rattle.std.proofs.lemmas.List.{map-append, map-set}
use Rattle.std.proofs.lemmas.Option.{slice_get_within}
use Rattle.serde_json.specs.declared.value.Value.{Value}
use Rattle.theory_definitions.specs.Guarded.{NodeEdge, NodePlan, node_edges}
use Rattle.theory_definitions.specs.Plan.{Edge, Key}
use Rattle.theory_meaning.specs.Reach.{asked_edges}
use Rattle.schema_node_table.specs.NodeTable.{Begins, Fills, IsNewRound, MayBeFilled, MayLead, MayPass, NodeEntry, Waits, begun_in, filled, filled_count, guards_at, is_settled_entry}
use Rattle.schema_node_table.proofs.NodeCounts.{count_begun, count_filled, count_more}
use Rattle.schema_node_table.proofs.NodesFilled.{in_map}
use Rattle.schema_keys.specs.Compiling.{Each, In}
use Rattle.schema_compiler.specs.Filling.{HasFormOrWaits}
use Rattle.schema_compiler.specs.Finding.{Course, Finds, GuardsByStanding, IsNew, Standing, WorksOff, and_then, begun, closed, formed, formed_count, guards_edge, in_a_round, is_formed, is_open, is_opened, is_put, is_settled, nests, no_more, passed, put, round_begun, standing_of, waits, was_found}
use Rattle.schema_compiler.specs.Carried.{Table, Task}
use Rattle.schema_compiler.specs.UnderWay.{EdgeNow, EdgesWithin, Goes, GoesTo, IsUnderWay, Reaches, course_of}
use Rattle.schema_compiler.specs.Reserving.{Reserved, Reserves}
use Rattle.schema_compiler.proofs.Reserving.{having, reserves_between, reserves_none, reserves_same, reserves_then}
use Rattle.schema_compiler.proofs.Courses.{finds_append, formed_counts}
use Rattle.schema_keys.proofs.Lists.{all_of, each_append, each_in, each_map, equal_or, get-append, get-end, get-pushed, get-set_other, get-set_same, length-more, longer, set-length, some_is}

-- ---- the state of a number

module _ {C : Type 0} (n : NodeEntry C) where
  pub stands_waiting : n.plan ≡ None → n.round ≡ None → standing_of n ≡ waits
  stands_waiting none no_round = rw (none, no_round) refl

  stands_open : (r : ℕ) → n.plan ≡ None → n.round ≡ Some r → standing_of n ≡ is_open r
  stands_open r none of = rw (none, of) refl

  stands_formed : (r : ℕ) (p : NodePlan C) → n.plan ≡ Some p → n.round ≡ Some r → standing_of n ≡ is_formed r n.order n.settled
  stands_formed r p has of = rw (has, of) refl

  stands_settled : is_settled (Some (standing_of n)) ≡ is_settled_entry n
  stands_settled =
      let go : (o : Option (NodePlan C)) (r : Option ℕ) → n.plan ≡ o → n.round ≡ r → is_settled (Some (standing_of n)) ≡ is_settled_entry n = elim [
        | None ↦ elim [ None ↦ λ e f. rw (e, f) refl | Some q ↦ λ e f. rw (e, f) refl ]
        | Some p ↦ λ r e f. rw e refl
      ] in
      go n.plan n.round refl refl

  no_plan_and_plan : (p : NodePlan C) → n.plan ≡ None → n.plan ≡ Some p → ⊥
  no_plan_and_plan p none has = let f : ⊥ = cc in f

-- courses are equal by their parts
pub course_is : {S : Type 0} (c d : Course S) → c.keys ≡ d.keys → c.standings ≡ d.standings → c.round ≡ d.round → c.depth ≡ d.depth → c.loose ≡ d.loose → c ≡ d
course_is c d keys standings round depth loose = λ i. record { keys = keys i; standings = standings i; round = round i; depth = depth i; loose = loose i }

-- ---- the invariant of rounds and guards, on nodes alone

record Way {C : Type 0} (ns : List (NodeEntry C)) (round : ℕ) : Type 0 where
  guards : GuardsByStanding ns
  within : EdgesWithin ns
  rounds : (i r : ℕ) (n : NodeEntry C) → slice_get ns i ≡ Some n → n.round ≡ Some r → r ≤ round
  opens : (i r : ℕ) (n : NodeEntry C) → slice_get ns i ≡ Some n → n.plan ≡ None → n.round ≡ Some r → r ≡ round
  formed : (i : ℕ) (n : NodeEntry C) (p : NodePlan C) → slice_get ns i ≡ Some n → n.plan ≡ Some p → (r : ℕ) × (n.round ≡ Some r) × (n.order < filled_count ns)

module _ {S K C : Type 0} (g : Task S K C) where
  way_of : (t : Table S C) → IsUnderWay g t → Way t.nodes t.round
  way_of t u = record { guards = u.guards; within = u.within; rounds = u.rounds; opens = u.opens; formed = u.formed }

  under_way : (t : Table S C) (ns : List (NodeEntry C)) (round : ℕ) → t.nodes ≡ ns → t.round ≡ round → t.depth ≤ g.nested → Way ns round → IsUnderWay g t
  under_way t ns round nodes rounds nested way =
      let w : Way t.nodes t.round = subst (λ (r : ℕ). Way t.nodes r) (sym rounds) (subst (λ (ms : List (NodeEntry C)). Way ms round) (sym nodes) way) in
      record { guards = w.guards; within = w.within; rounds = w.rounds; opens = w.opens; formed = w.formed; nested = nested }

-- one more node without a form, in this round or waiting
module _ {C : Type 0} (ns : List (NodeEntry C)) (x : NodeEntry C) (round : ℕ) (none : x.plan ≡ None) (of : (r : ℕ) → x.round ≡ Some r → r ≡ round) (w : Way ns round) where
  had_form : (i : ℕ) (n : NodeEntry C) (p : NodePlan C) → slice_get (ns ++ x ∷ []) i ≡ Some n → n.plan ≡ Some p → slice_get ns i ≡ Some n
  had_form i n p at has = ⊎_elim
      (λ was. was)
      (λ (new : (i ≡ length ns) × (x ≡ n)). absurd (no_plan_and_plan x p none (ap (λ (m : NodeEntry C). m.plan) new.1 ∙ has)))
      (get-pushed ns x i n at)

  was_within : (i : ℕ) (n : NodeEntry C) → i < length ns → slice_get (ns ++ x ∷ []) i ≡ Some n → slice_get ns i ≡ Some n
  was_within i n lt at = ⊎_elim
      (λ was. was)
      (λ (new : (i ≡ length ns) × (x ≡ n)). absurd (let e = new.0 in omega arith))
      (get-pushed ns x i n at)

  more_way : Way (ns ++ x ∷ []) round
  more_way = record {
    guards = λ i n p e m at has is to. let was = had_form i n p at has in w.guards i n p e m was has is (was_within e.node m (w.within i n p e was has is) to);
    within = λ i n p e at has is. let l = w.within i n p e (had_form i n p at has) has is in let k = longer ns (x ∷ []) in omega arith;
    rounds = λ i r n at is. ⊎_elim
        (λ was. w.rounds i r n was is)
        (λ (new : (i ≡ length ns) × (x ≡ n)). let e : r ≡ round = of r (ap (λ (m : NodeEntry C). m.round) new.1 ∙ is) in omega arith)
        (get-pushed ns x i n at);
    opens = λ i r n at no_form is. ⊎_elim
        (λ was. w.opens i r n was no_form is)
        (λ (new : (i ≡ length ns) × (x ≡ n)). of r (ap (λ (m : NodeEntry C). m.round) new.1 ∙ is))
        (get-pushed ns x i n at);
    formed = λ i n p at has. let f = w.formed i n p (had_form i n p at has) has in (f.0, f.1, rw (count_more ns x none) f.2);
  }

-- ---- guards

not_le : (a b : ℕ) → b < a → nat_le a b ≡ false
not_le a b h =
    let go : (x : Bool) → nat_le a b ≡ x → x ≡ false = elim [ true ↦ λ e. absurd (let l = leb-true a b e in omega arith) | false ↦ λ e. refl ] in
    go (nat_le a b) refl

-- an edge to a number in progress in this round is guarded alike after that has its form
guards_kept : (r o round f : ℕ) (b s : Bool) → r ≤ round → o < f → guards_edge (is_formed r o b) (is_open round) ≡ guards_edge (is_formed r o b) (is_formed round f s)
guards_kept r o round f b s no_later before =
    let go : (x : Bool) → (round == r) ≡ x → guards_edge (is_formed r o b) (is_open round) ≡ guards_edge (is_formed r o b) (is_formed round f s) = elim [
      | true ↦ λ e. rw (e, le-leb o f (omega arith)) refl
      | false ↦ λ e. rw (e, not_le (suc round) r (omega arith)) refl
    ] in
    go (round == r) refl

-- an edge from a number that gets its form, to one that has its form, is guarded as when it was
-- made
guards_formed : (r o round f : ℕ) (b s : Bool) → r ≤ round → o < f → (not b && not (r == round)) ≡ guards_edge (is_formed round f s) (is_formed r o b)
guards_formed r o round f b s no_later before =
    let go : (x : Bool) → (r == round) ≡ x → (c : Bool) → (not c && not (r == round)) ≡ guards_edge (is_formed round f s) (is_formed r o c) = elim [
      | true ↦ λ e. elim [ true ↦ rw (e, not_le f o before) refl | false ↦ rw (e, not_le f o before) refl ]
      | false ↦ λ e.
          let differ : r ≡ round → ⊥ = eqb-false r round e in
          let less : nat_le (suc r) round ≡ true = ⊎_elim (λ same. absurd (differ same)) (λ other. le-leb (suc r) round (below r round no_later other)) (equal_or r round) in
          elim [ true ↦ rw (e, less) refl | false ↦ rw (e, less) refl ]
    ] in
    go (r == round) refl b
  where
    below : (a b : ℕ) → a ≤ b → a ≢ b → a < b
    below a b l other = elim (dec_lt a b) [ yes h ↦ h | no h ↦ absurd (other (omega arith)) ]

guards_self : (r o : ℕ) (b s : Bool) → guards_edge (is_formed r o b) (is_formed r o s) ≡ true
guards_self r o b s = rw (eq-eqb r r refl, le-leb o o (omega arith)) refl

module _ {C : Type 0} (ns : List (NodeEntry C)) (round : ℕ) (w : Way ns round) (j : ℕ) (m : NodeEntry C) (at : slice_get ns j ≡ Some m) where
  -- an edge made in this round, from the node that gets its form next, is guarded as the states say
  guards_now : (s : Bool) → guards_at round m ≡ guards_edge (is_formed round (filled_count ns) s) (standing_of m)
  guards_now s =
      let go : (o : Option (NodePlan C)) (r : Option ℕ) → m.plan ≡ o → m.round ≡ r → guards_at round m ≡ guards_edge (is_formed round (filled_count ns) s) (standing_of m) = elim [
        | None ↦ elim [
          | None ↦ λ e f. rw (e, f) refl
          | Some r ↦ λ e f. rw (e, f) (sym (eq-eqb r round (w.opens j r m at e f)))
        ]
        | Some p ↦ λ r e f.
            let (q, of, before) = w.formed j m p at e in
            rw (e, of) (guards_formed q m.order round (filled_count ns) m.settled s (w.rounds j q m at of) before)
      ] in
      go m.plan m.round refl refl

  -- an unguarded edge that was made may lead to its target
  may_pass : (loose : Bool) → guards_at round m ≡ false → (is_settled_entry m ≡ false → loose ≡ true) → MayPass round (not loose) m
  may_pass loose free noted = record {
    unfilled = λ none.
        let go : (r : Option ℕ) → m.round ≡ r → m.round ≡ None = elim [
          | None ↦ λ e. e
          | Some r ↦ λ e. absurd (let t : guards_at round m ≡ true = rw (none, e) refl in true≢false (sym t ∙ free))
        ] in
        (ap not (noted (rw none refl)), go m.round refl);
    formed = λ p has.
        let (q, of, before) = w.formed j m p at has in
        let go : (s : Bool) → m.settled ≡ s → (m.settled ≡ true) ⊎ ((not loose ≡ false) × ((r : ℕ) × (m.round ≡ Some r) × (round ≤ r))) = elim [
          | true ↦ λ e. inl e
          | false ↦ λ e. inr (ap not (noted (rw (has, e) refl)), (q, of, same q of p has e))
        ] in
        go m.settled refl;
  } where
    same : (q : ℕ) → m.round ≡ Some q → (p : NodePlan C) → m.plan ≡ Some p → m.settled ≡ false → round ≤ q
    same q of p has e =
        let go : (x : Bool) → (q == round) ≡ x → round ≤ q = elim [
          | true ↦ λ f. let t = eqb-true q round f in omega arith
          | false ↦ λ f. absurd (let t : guards_at round m ≡ true = rw (has, e, of, f) refl in true≢false (sym t ∙ free))
        ] in
        go (q == round) refl

-- ---- a number gets its form

-- an edge made in this round
abbrev Made : {C : Type 0} → List (NodeEntry C) → ℕ → NodeEdge → Type 0
Made {C} ns round e = (m : NodeEntry C) × (slice_get ns e.node ≡ Some m) × (e.guarded ≡ guards_at round m)

module _ {C : Type 0} (ns : List (NodeEntry C)) (i : ℕ) (n x : NodeEntry C) (at : slice_get ns i ≡ Some n) where
  is_set : (j : ℕ) (m : NodeEntry C) → j ≡ i → slice_get (slice_set ns i x) j ≡ Some m → x ≡ m
  is_set j m same e = some_is x m (sym (get-set_same ns i x (slice_get_within ns i n at)) ∙ ap (slice_get (slice_set ns i x)) (sym same) ∙ e)

  was_other : (j : ℕ) (m : NodeEntry C) → j ≢ i → slice_get (slice_set ns i x) j ≡ Some m → slice_get ns j ≡ Some m
  was_other j m other e = sym (get-set_other ns i j x other) ∙ e

module _ {C : Type 0} (ns : List (NodeEntry C)) (i round : ℕ) (n : NodeEntry C) (s : Bool) (annotations : Option Value) (p : NodePlan C) (at : slice_get ns i ≡ Some n) (none : n.plan ≡ None)
    (of : n.round ≡ Some round) (w : Way ns round) (made : Each (Made ns round) (node_edges p)) where
  abbrev new : NodeEntry C
  new = filled n (filled_count ns) s annotations p

  abbrev after : List (NodeEntry C)
  after = slice_set ns i new

  its_edge : (m : NodeEntry C) (q : NodePlan C) (e : NodeEdge) → m.plan ≡ Some q → In (node_edges q) e → new ≡ m → In (node_edges p) e
  its_edge m q e has is same =
      let plan : p ≡ q = some_is p q (ap (λ (y : NodeEntry C). y.plan) same ∙ has) in
      subst (λ (r : NodePlan C). In (node_edges r) e) (sym plan) is

  module _ (j : ℕ) (m : NodeEntry C) (q : NodePlan C) (e : NodeEdge) (has : m.plan ≡ Some q) (is : In (node_edges q) e) (x : NodeEntry C) (to : slice_get after e.node ≡ Some x) where
    -- edges of older nodes
    older_guards : slice_get ns j ≡ Some m → e.guarded ≡ guards_edge (standing_of m) (standing_of x)
    older_guards was = ⊎_elim
        (λ same.
        let (r, begun, before) = w.formed j m q was has in
        let old : e.guarded ≡ guards_edge (standing_of m) (standing_of n) = w.guards j m q e n was has is (ap (slice_get ns) same ∙ at) in
        let kept : guards_edge (standing_of m) (standing_of n) ≡ guards_edge (standing_of m) (standing_of new)
        = rw (has, begun, none, of) (guards_kept r m.order round (filled_count ns) m.settled s (w.rounds j r m was begun) before) in
        old ∙ kept ∙ ap (λ y. guards_edge (standing_of m) (standing_of y)) (is_set ns i n new at e.node x same to))
        (λ other. w.guards j m q e x was has is (was_other ns i n new at e.node x other to))
        (equal_or e.node i)

    -- its own edges
    own_guards : new ≡ m → e.guarded ≡ guards_edge (standing_of m) (standing_of x)
    own_guards same =
        let (y, there, guard) = each_in (Made ns round) (node_edges p) e made (its_edge m q e has is same) in
        let stands : standing_of new ≡ is_formed round (filled_count ns) s = rw of refl in
        let from : guards_edge (is_formed round (filled_count ns) s) (standing_of x) ≡ guards_edge (standing_of m) (standing_of x) = ap (λ t. guards_edge t (standing_of x)) (sym stands ∙ ap standing_of same) in
        ⊎_elim
        (λ itself.
        let one : y ≡ n = some_is y n (sym there ∙ ap (slice_get ns) itself ∙ at) in
        let open_now : guards_at round n ≡ true = rw (none, of) refl in
        let to_new : standing_of x ≡ is_formed round (filled_count ns) s = ap standing_of (sym (is_set ns i n new at e.node x itself to)) ∙ stands in
        guard ∙ ap (guards_at round) one ∙ open_now ∙ sym (guards_self round (filled_count ns) s s) ∙ ap (guards_edge (is_formed round (filled_count ns) s)) (sym to_new) ∙ from)
        (λ other.
        let old = was_other ns i n new at e.node x other to in
        let one : y ≡ x = some_is y x (sym there ∙ old) in
        guard ∙ ap (guards_at round) one ∙ guards_now ns round w e.node x old s ∙ from)
        (equal_or e.node i)

  form_way : Way after round
  form_way = record {
    guards = λ j m q e x at' has is to. ⊎_elim
        (λ same. own_guards j m q e has is x to (is_set ns i n new at j m same at'))
        (λ other. older_guards j m q e has is x to (was_other ns i n new at j m other at'))
        (equal_or j i);
    within = λ j m q e at' has is. let len = set-length ns i new in ⊎_elim
        (λ same.
        let (y, there, guard) = each_in (Made ns round) (node_edges p) e made (its_edge m q e has is (is_set ns i n new at j m same at')) in
        let l = slice_get_within ns e.node y there in omega arith)
        (λ other. let l = w.within j m q e (was_other ns i n new at j m other at') has is in omega arith)
        (equal_or j i);
    rounds = λ j r m at' is. ⊎_elim
        (λ same. let e : round ≡ r = some_is round r (sym of ∙ ap (λ (y : NodeEntry C). y.round) (is_set ns i n new at j m same at') ∙ is) in omega arith)
        (λ other. w.rounds j r m (was_other ns i n new at j m other at') is)
        (equal_or j i);
    opens = λ j r m at' no_form is. ⊎_elim
        (λ same. absurd (no_plan_and_plan m p no_form (sym (ap (λ (y : NodeEntry C). y.plan) (is_set ns i n new at j m same at')))))
        (λ other. w.opens j r m (was_other ns i n new at j m other at') no_form is)
        (equal_or j i);
    formed = λ j m q at' has. let more = count_filled ns i n (filled_count ns) s annotations p at none in ⊎_elim
        (λ same.
        let here = is_set ns i n new at j m same at' in
        let order : filled_count ns ≡ m.order = ap (λ (y : NodeEntry C). y.order) here in
        (round, sym (ap (λ (y : NodeEntry C). y.round) here) ∙ of, omega arith))
        (λ other. let f = w.formed j m q (was_other ns i n new at j m other at') has in let l = f.2 in (f.0, f.1, omega arith))
        (equal_or j i);
  }

-- ---- a round begins

module _ {C : Type 0} (m x : NodeEntry C) (q : NodePlan C) (r : ℕ) (has : m.plan ≡ Some q) (of : m.round ≡ Some r) (none : x.plan ≡ None) where
  -- an edge to a number that waits is not guarded
  guards_waiting : x.round ≡ None → guards_edge (standing_of m) (standing_of x) ≡ false
  guards_waiting no_round = rw (has, of, none, no_round) refl

  -- nor is one to an open number, from an earlier round
  guards_later : (i : ℕ) → x.round ≡ Some i → r < i → guards_edge (standing_of m) (standing_of x) ≡ false
  guards_later i is less = rw (has, of, none, is) (differ i r less)
    where
      differ : (a b : ℕ) → b < a → (a == b) ≡ false
      differ a b l =
          let go : (x : Bool) → (a == b) ≡ x → x ≡ false = elim [ true ↦ λ e. absurd (let f = eqb-true a b e in omega arith) | false ↦ λ e. refl ] in
          go (a == b) refl

module _ {C : Type 0} (ns : List (NodeEntry C)) (i round : ℕ) (n : NodeEntry C) (at : slice_get ns i ≡ Some n) (none : n.plan ≡ None) (no_round : n.round ≡ None) (w : Way ns round)
    (each : (j : ℕ) (m : NodeEntry C) → slice_get ns j ≡ Some m → HasFormOrWaits m) (later : IsNewRound ns i) where
  abbrev begins : NodeEntry C
  begins = begun_in n i

  begun_had_form : (j : ℕ) (m : NodeEntry C) (q : NodePlan C) → slice_get (slice_set ns i begins) j ≡ Some m → m.plan ≡ Some q → slice_get ns j ≡ Some m
  begun_had_form j m q at' has = ⊎_elim
      (λ same. absurd (no_plan_and_plan n q none (ap (λ (y : NodeEntry C). y.plan) (is_set ns i n begins at j m same at') ∙ has)))
      (λ other. was_other ns i n begins at j m other at')
      (equal_or j i)

  -- the edges to a number that waited were unguarded, and from earlier rounds
  begun_guards : GuardsByStanding (slice_set ns i begins)
  begun_guards j m q e x at' has is to =
      let was = begun_had_form j m q at' has in
      ⊎_elim
      (λ same.
      let (r, of, before) = w.formed j m q was has in
      let less : r < i = later j m r was of in
      let old : e.guarded ≡ guards_edge (standing_of m) (standing_of n) = w.guards j m q e n was has is (ap (slice_get ns) same ∙ at) in
      let free : guards_edge (standing_of m) (standing_of n) ≡ false = guards_waiting m n q r has of none no_round in
      let new_free : guards_edge (standing_of m) (standing_of begins) ≡ false = guards_later m begins q r has of none i refl less in
      old ∙ free ∙ sym new_free ∙ ap (λ y. guards_edge (standing_of m) (standing_of y)) (is_set ns i n begins at e.node x same to))
      (λ other. w.guards j m q e x was has is (was_other ns i n begins at e.node x other to))
      (equal_or e.node i)

  begun_round_way : Way (slice_set ns i begins) i
  begun_round_way = record {
    guards = begun_guards;
    within = λ j m q e at' has is. let l = w.within j m q e (begun_had_form j m q at' has) has is in let len = set-length ns i begins in omega arith;
    rounds = λ j r m at' is. ⊎_elim
        (λ same. let e : i ≡ r = some_is i r (ap (λ (y : NodeEntry C). y.round) (is_set ns i n begins at j m same at') ∙ is) in omega arith)
        (λ other. let l = later j m r (was_other ns i n begins at j m other at') is in omega arith)
        (equal_or j i);
    opens = λ j r m at' no_form is. ⊎_elim
        (λ same. sym (some_is i r (ap (λ (y : NodeEntry C). y.round) (is_set ns i n begins at j m same at') ∙ is)))
        (λ other. absurd (none_open m r (each j m (was_other ns i n begins at j m other at')) no_form is))
        (equal_or j i);
    formed = λ j m q at' has. let f = w.formed j m q (begun_had_form j m q at' has) has in (f.0, f.1, rw (count_begun ns i n i at) f.2);
  } where
    none_open : (m : NodeEntry C) (r : ℕ) → HasFormOrWaits m → m.plan ≡ None → m.round ≡ Some r → ⊥
    none_open m r (inl f) no_form is = no_plan_and_plan m f.0 no_form f.1
    none_open m r (inr f) no_form is = let round = f.1 in let b : ⊥ = cc in b

-- ---- the public lemmas, over tables

module _ {S K C : Type 0} (g : Task S K C) where
  -- no request; one after another; and the same with other edges
  pub goes_none : (t : Table S C) → IsUnderWay g t → Goes g t t [] []
  goes_none t u = record { finds = no_more; now = tt; under_way = u; stay = λ i n e. e; same_round = refl; same_depth = refl; looser = λ e. e; reserves = reserves_none t.reserved }

  -- the edges stay as they were made
  edge_stays : (t t' : Table S C) → ((i : ℕ) (n : NodeEntry C) → slice_get t.nodes i ≡ Some n → slice_get t'.nodes i ≡ Some n) → t'.round ≡ t.round → (t.loose ≡ true → t'.loose ≡ true)
      → (e : NodeEdge) → EdgeNow t e → EdgeNow t' e
  edge_stays t t' stay same_round looser e now = record {
    entry = now.entry;
    at = stay e.node now.entry now.at;
    guard = now.guard ∙ ap (λ (r : ℕ). guards_at r now.entry) (sym same_round);
    loose = λ f. looser (now.loose f);
  }

  pub goes_then : (t t' t'' : Table S C) (es es' : List (Edge S)) (made made' : List NodeEdge) → Goes g t t' es made → Goes g t' t'' es' made' → Goes g t t'' (es ++ es') (made ++ made')
  goes_then t t' t'' es es' made made' a b = record {
    finds = finds_append g.parts g.nested a.finds b.finds;
    now = each_append (EdgeNow t'') made made' (each_map (EdgeNow t') (EdgeNow t'') made (edge_stays t' t'' b.stay b.same_round b.looser) a.now) b.now;
    under_way = b.under_way;
    stay = λ i n e. b.stay i n (a.stay i n e);
    same_round = b.same_round ∙ a.same_round;
    same_depth = b.same_depth ∙ a.same_depth;
    looser = λ e. b.looser (a.looser e);
    reserves = reserves_then t.reserved t'.reserved t''.reserved a.reserves b.reserves;
  }

  pub goes_made : (t t' : Table S C) (es : List (Edge S)) (made made' : List NodeEdge) → Goes g t t' es made → Each (EdgeNow t') made' → Goes g t t' es made'
  goes_made t t' es made made' a now = record {
    finds = a.finds;
    now = now;
    under_way = a.under_way;
    stay = a.stay;
    same_round = a.same_round;
    same_depth = a.same_depth;
    looser = a.looser;
    reserves = a.reserves;
  }

  -- the same with other numbers reserved
  pub goes_having : (t t' : Table S C) (rs rs' : List Reserved) (es : List (Edge S)) (made : List NodeEdge) → Goes g t t' es made → Reserves rs rs' → Goes g (having t rs) (having t' rs') es made
  goes_having t t' rs rs' es made a reserves = record {
    finds = a.finds;
    now = each_map (EdgeNow t') (EdgeNow (having t' rs')) made (λ e now. record { entry = now.entry; at = now.at; guard = now.guard; loose = now.loose }) a.now;
    under_way = let u = a.under_way in record { guards = u.guards; within = u.within; rounds = u.rounds; opens = u.opens; formed = u.formed; nested = u.nested };
    stay = a.stay;
    same_round = a.same_round;
    same_depth = a.same_depth;
    looser = a.looser;
    reserves = reserves;
  }

  -- an edge is made to the number of a key
  pub goes_to : (t t' t'' : Table S C) (k : Key S) (nesting : Bool) (i : ℕ) (made : NodeEdge) (entry : NodeEntry C) → Reaches g t t' k nesting i → t''.reserved ≡ t'.reserved → t''.keys ≡ t'.keys → t''.nodes ≡ t'.nodes → t''.round ≡ t'.round → t''.depth ≡ t'.depth
      → t''.loose ≡ (t'.loose || not (is_settled_entry entry)) → slice_get t'.nodes i ≡ Some entry → made.node ≡ i → made.guarded ≡ guards_at t'.round entry → GoesTo g t t'' k nesting made
  goes_to t t' t'' k nesting i made entry reaches reserved keys nodes round depth loose at node guard e of_key of_nesting = record {
    finds = and_then (course_of t') i (reaches.visits e of_key of_nesting) (subst (λ (c : Course S). Finds g.parts g.nested (passed (course_of t') i) [] c) passes no_more);
    now = (
      record {
        entry = entry;
        at = ap (slice_get t''.nodes) node ∙ ap (λ (ns : List (NodeEntry C)). slice_get ns i) nodes ∙ at;
        guard = guard ∙ ap (λ (r : ℕ). guards_at r entry) (sym round);
        loose = λ f. loose ∙ ap (λ (b : Bool). t'.loose || not b) f ∙ or_true t'.loose;
      },
      tt,
    );
    under_way = under_way g t'' t'.nodes t'.round nodes round (let u = reaches.under_way.nested in rw depth u) (way_of g t' reaches.under_way);
    stay = λ j n is. ap (λ (ns : List (NodeEntry C)). slice_get ns j) nodes ∙ reaches.stay j n is;
    same_round = round ∙ reaches.same_round;
    same_depth = depth ∙ reaches.same_depth;
    looser = λ f. loose ∙ ap (λ (b : Bool). b || not (is_settled_entry entry)) (reaches.same_loose ∙ f);
    reserves = reserves_same t.reserved t'.reserved t''.reserved reaches.reserves reserved;
  } where
    or_true : (b : Bool) → (b || true) ≡ true
    or_true = elim [ true ↦ refl | false ↦ refl ]

    settled : is_settled (slice_get (map standing_of t'.nodes) i) ≡ is_settled_entry entry
    settled = ap is_settled (in_map standing_of t'.nodes i entry at) ∙ stands_settled entry

    passes : passed (course_of t') i ≡ course_of t''
    passes = course_is (passed (course_of t') i) (course_of t'') (sym keys) (ap (map standing_of) (sym nodes)) (sym round) (sym depth) (ap (λ (b : Bool). t'.loose || not b) settled ∙ sym loose)

  -- a key had its number
  pub reaches_found : (t : Table S C) (k : Key S) (nesting : Bool) (i : ℕ) → IsUnderWay g t → length t.nodes ≡ length t.keys → slice_get t.keys i ≡ Some k → Reaches g t t k nesting i
  reaches_found t k nesting i u lengths at = record {
    visits = λ e of_key of_nesting. was_found (at ∙ ap (λ (q : Key S). Some q) (sym of_key));
    under_way = u;
    stay = λ j n is. is;
    same_round = refl;
    same_depth = refl;
    same_loose = refl;
    reserves = reserves_none t.reserved;
    within = let l = slice_get_within t.keys i k at in omega arith;
  }

  -- the key of an edge is new
  is_new : (t : Table S C) (k : Key S) (e : Edge S) → e.key ≡ k → IsNew (course_of t) k → IsNew (course_of t) e.key
  is_new t k e of_key new = subst (λ (q : Key S). IsNew (course_of t) q) (sym of_key) new

  -- the keys with one more
  key_more : (t t' : Table S C) (k : Key S) (e : Edge S) → e.key ≡ k → t'.keys ≡ t.keys ++ k ∷ [] → t'.keys ≡ t.keys ++ e.key ∷ []
  key_more t t' k e of_key keys = keys ∙ ap (λ (q : Key S). t.keys ++ q ∷ []) (sym of_key)

  -- the states with one more
  standing_more : (t t' : Table S C) (n : NodeEntry C) (s : Standing) → t'.nodes ≡ t.nodes ++ n ∷ [] → standing_of n ≡ s → map standing_of t'.nodes ≡ map standing_of t.nodes ++ s ∷ []
  standing_more t t' n s nodes stands = ap (map standing_of) nodes ∙ map-append standing_of t.nodes (n ∷ []) ∙ ap (λ (x : Standing). map standing_of t.nodes ++ x ∷ []) stands

  -- no key is found yet
  pub empty_way : (t : Table S C) → t.nodes ≡ [] → t.depth ≤ g.nested → IsUnderWay g t
  empty_way t nodes nested = under_way g t [] t.round nodes refl nested (record {
    guards = λ i n p e m at has is to. absurd (none_there i n at);
    within = λ i n p e at has is. absurd (none_there i n at);
    rounds = λ i r n at is. absurd (none_there i n at);
    opens = λ i r n at no_form is. absurd (none_there i n at);
    formed = λ i n p at has. absurd (none_there i n at);
  }) where
    none_there : (i : ℕ) (n : NodeEntry C) → slice_get [] i ≡ Some n → ⊥
    none_there i n at = let f : ⊥ = cc in f

  -- a number is added and waits
  pub waiting_way : (t t' : Table S C) (n : NodeEntry C) → IsUnderWay g t → t'.nodes ≡ t.nodes ++ n ∷ [] → n.plan ≡ None → n.round ≡ None → t'.round ≡ t.round → t'.depth ≤ g.nested → IsUnderWay g t'
  waiting_way t t' n u nodes none no_round round nested =
      under_way g t' (t.nodes ++ n ∷ []) t.round nodes round nested (more_way t.nodes n t.round none (λ r is. absurd (let f : ⊥ = cc in f)) (way_of g t u))

  -- a new key is put on the list
  pub reaches_put : (t t' : Table S C) (k : Key S) (i : ℕ) (n : NodeEntry C) → IsUnderWay g t → IsNew (course_of t) k → g.nested ≤ t.depth → length t.nodes ≡ length t.keys → t'.keys ≡ t.keys ++ k ∷ [] → t'.nodes ≡ t.nodes ++ n ∷ []
      → n.plan ≡ None → n.round ≡ None → t'.round ≡ t.round → t'.depth ≡ t.depth → t'.loose ≡ t.loose → t'.reserved ≡ t.reserved → i ≡ length t.nodes → Reaches g t t' k true i
  reaches_put t t' k i n u new full lengths keys nodes none no_round round depth loose reserved at = record {
    visits = λ e of_key of_nesting. is_put (is_new t k e of_key new) of_nesting full
        (course_is (course_of t') (put (course_of t) e.key) (key_more t t' k e of_key keys) (standing_more t t' n waits nodes (stands_waiting n none no_round)) round depth loose)
        (at ∙ lengths);
    under_way = waiting_way t t' n u nodes none no_round round (let l = u.nested in rw depth l);
    stay = λ j m is. ap (λ (ns : List (NodeEntry C)). slice_get ns j) nodes ∙ get-append t.nodes (n ∷ []) j m is;
    same_round = round;
    same_depth = depth;
    same_loose = loose;
    reserves = reserves_same t.reserved t.reserved t'.reserved (reserves_none t.reserved) reserved;
    within = let l : length t'.nodes ≡ suc (length t.nodes) = ap length nodes ∙ length-more t.nodes n in omega arith;
  }

  -- a number is added, in progress in this round
  pub opened_way : (t o : Table S C) (n : NodeEntry C) → IsUnderWay g t → o.nodes ≡ t.nodes ++ n ∷ [] → n.plan ≡ None → n.round ≡ Some t.round → o.round ≡ t.round → o.depth ≤ g.nested → IsUnderWay g o
  opened_way t o n u nodes none of round nested =
      under_way g o (t.nodes ++ n ∷ []) t.round nodes round nested (more_way t.nodes n t.round none (λ r is. some_is r t.round (sym is ∙ of)) (way_of g t u))

  -- a number that is in progress may get its form
  pub may_be_filled : (d : Table S C) (i : ℕ) (n : NodeEntry C) (p : NodePlan C) → IsUnderWay g d → slice_get d.nodes i ≡ Some n → n.plan ≡ None → n.round ≡ Some d.round → Each (EdgeNow d) (node_edges p) → MayBeFilled d.nodes i (not d.loose) p
  may_be_filled d i n p u at none of now =
      (d.round, (n, at, none, of), all_of (MayLead d.nodes d.round (not d.loose)) (node_edges p) (each_map (EdgeNow d) (MayLead d.nodes d.round (not d.loose)) (node_edges p) may_lead now))
    where
      may_lead : (e : NodeEdge) → EdgeNow d e → MayLead d.nodes d.round (not d.loose) e
      may_lead e l = record {
        entry = l.entry;
        at = l.at;
        unguarded = λ free. may_pass d.nodes d.round (way_of g d u) e.node l.entry l.at d.loose (sym l.guard ∙ free) l.loose;
      }

  -- and then it gets its form
  pub filled_way : (d t' : Table S C) (i : ℕ) (n : NodeEntry C) (annotations : Option Value) (p : NodePlan C) → IsUnderWay g d → slice_get d.nodes i ≡ Some n → n.plan ≡ None → n.round ≡ Some d.round → Each (EdgeNow d) (node_edges p)
      → Fills d.nodes i (not d.loose) annotations p t'.nodes → t'.round ≡ d.round → t'.depth ≤ g.nested → IsUnderWay g t'
  filled_way d t' i n annotations p u at none of now fills round nested =
      let is : fills.0 ≡ n = some_is fills.0 n (sym fills.1 ∙ at) in
      let nodes : t'.nodes ≡ slice_set d.nodes i (filled n (filled_count d.nodes) (not d.loose) annotations p)
      = fills.2 ∙ ap (λ (m : NodeEntry C). slice_set d.nodes i (filled m (filled_count d.nodes) (not d.loose) annotations p)) is in
      let made = each_map (EdgeNow d) (Made d.nodes d.round) (node_edges p) (λ e l. (l.entry, l.at, l.guard)) now in
      under_way g t' (slice_set d.nodes i (filled n (filled_count d.nodes) (not d.loose) annotations p)) d.round nodes round nested (form_way d.nodes i d.round n (not d.loose) annotations p at none of (way_of g d u) made)

  -- the states after a number has its form
  standing_formed : (d t' : Table S C) (i : ℕ) (n : NodeEntry C) (annotations : Option Value) (p : NodePlan C) → slice_get d.nodes i ≡ Some n → n.round ≡ Some d.round → Fills d.nodes i (not d.loose) annotations p t'.nodes
      → map standing_of t'.nodes ≡ slice_set (map standing_of d.nodes) i (is_formed d.round (formed_count (map standing_of d.nodes)) (not d.loose))
  standing_formed d t' i n annotations p at of fills =
      let is : fills.0 ≡ n = some_is fills.0 n (sym fills.1 ∙ at) in
      let round : fills.0.round ≡ Some d.round = ap (λ (m : NodeEntry C). m.round) is ∙ of in
      let x : NodeEntry C = filled fills.0 (filled_count d.nodes) (not d.loose) annotations p in
      ap (map standing_of) fills.2 ∙ map-set standing_of d.nodes i x
      ∙ ap (slice_set (map standing_of d.nodes) i) (stands_formed x d.round p refl round ∙ ap (λ (o : ℕ). is_formed d.round o (not d.loose)) (sym (formed_counts d.nodes)))

  -- t: before; o: the number is added and begun; d: all that its key requests is found; t': the
  -- number has its form
  pub reaches_opened : (t o d t' : Table S C) (k : Key S) (nesting : Bool) (i : ℕ) (n : NodeEntry C) (annotations : Option Value) (p : NodePlan C) → IsUnderWay g t → IsNew (course_of t) k → (nesting ≡ true → t.depth < g.nested) → length t.nodes ≡ length t.keys
      → o.keys ≡ t.keys ++ k ∷ [] → o.nodes ≡ t.nodes ++ n ∷ [] → n.plan ≡ None → n.round ≡ Some t.round → o.round ≡ t.round → o.depth ≡ (if nesting then suc t.depth else t.depth) → o.loose ≡ false → o.reserved ≡ t.reserved → t'.reserved ≡ d.reserved → i ≡ length t.nodes
      → Goes g o d (asked_edges g.parts k) (node_edges p) → Fills d.nodes i (not d.loose) annotations p t'.nodes → t'.keys ≡ d.keys → t'.round ≡ t.round → t'.depth ≡ t.depth → t'.loose ≡ t.loose → Reaches g t t' k nesting i
  reaches_opened t o d t' k nesting i n annotations p u new room lengths o_keys o_nodes none of o_round o_depth o_loose o_reserved reserved at goes fills keys round depth loose = record {
    visits = λ e of_key of_nesting. is_opened (course_of d) (is_new t k e of_key new) (λ f. room (sym of_nesting ∙ f)) (inner e of_key of_nesting) (closes e) (at ∙ lengths);
    under_way = filled_way d t' i n annotations p goes.under_way there none of_now goes.now fills (round ∙ sym now_round) (let l = u.nested in rw depth l);
    stay = λ j m is.
        let l = slice_get_within t.nodes j m is in
        let other : j ≢ i = λ same. omega (arith, same, at, l) in
        ap (λ (ns : List (NodeEntry C)). slice_get ns j) fills.2 ∙ get-set_other d.nodes i j (filled fills.0 (filled_count d.nodes) (not d.loose) annotations p) other
        ∙ goes.stay j m (ap (λ (ns : List (NodeEntry C)). slice_get ns j) o_nodes ∙ get-append t.nodes (n ∷ []) j m is);
    same_round = round;
    same_depth = depth;
    same_loose = loose;
    reserves = reserves_between t.reserved o.reserved d.reserved t'.reserved o_reserved goes.reserves reserved;
    within =
        let l = slice_get_within d.nodes i n there in
        let len : length t'.nodes ≡ length d.nodes = ap length fills.2 ∙ set-length d.nodes i (filled fills.0 (filled_count d.nodes) (not d.loose) annotations p) in
        omega arith;
  } where
    there : slice_get d.nodes i ≡ Some n
    there = goes.stay i n (ap (λ (ns : List (NodeEntry C)). slice_get ns i) o_nodes ∙ ap (slice_get (t.nodes ++ n ∷ [])) at ∙ get-end t.nodes n)

    now_round : d.round ≡ t.round
    now_round = goes.same_round ∙ o_round

    of_now : n.round ≡ Some d.round
    of_now = of ∙ ap (λ (r : ℕ). Some r) (sym now_round)

    -- what the key requests, found from where its number is begun
    inner : (e : Edge S) → e.key ≡ k → nests e ≡ nesting → Finds g.parts g.nested (begun (course_of t) e) (asked_edges g.parts e.key) (course_of d)
    inner e of_key of_nesting =
        let same : course_of o ≡ begun (course_of t) e = course_is (course_of o) (begun (course_of t) e) (key_more t o k e of_key o_keys) (standing_more t o n (is_open t.round) o_nodes (stands_open n t.round none of)) o_round
        (o_depth ∙ ap (λ (b : Bool). if b then suc t.depth else t.depth) (sym of_nesting)) o_loose in
        subst (λ (q : Key S). Finds g.parts g.nested (begun (course_of t) e) (asked_edges g.parts q) (course_of d)) (sym of_key)
        (subst (λ (c : Course S). Finds g.parts g.nested c (asked_edges g.parts k) (course_of d)) same goes.finds)

    closes : (e : Edge S) → course_of t' ≡ closed (course_of t) (course_of d)
    closes e = course_is (course_of t') (closed (course_of t) (course_of d)) keys
        (standing_formed d t' i n annotations p there of_now fills ∙ ap (λ (j : ℕ). slice_set (map standing_of d.nodes) j (is_formed d.round (formed_count (map standing_of d.nodes)) (not d.loose))) (at ∙ lengths))
        (round ∙ sym now_round) depth loose

  -- a round begins with a number that waits, when nothing is in progress and every round is an
  -- earlier one
  pub begun_way : (t b : Table S C) (i : ℕ) → ((j : ℕ) (n : NodeEntry C) → slice_get t.nodes j ≡ Some n → HasFormOrWaits n) → IsUnderWay g t → IsNewRound t.nodes i → Waits t.nodes i → Begins t.nodes i i b.nodes → b.round ≡ i → b.depth ≡ 0 → IsUnderWay g b
  begun_way t b i each u later waiting begins round depth =
      let is : waiting.0 ≡ begins.0 = some_is waiting.0 begins.0 (sym waiting.1 ∙ begins.1) in
      let none : begins.0.plan ≡ None = ap (λ (n : NodeEntry C). n.plan) (sym is) ∙ waiting.2 in
      let no_round : begins.0.round ≡ None = ap (λ (n : NodeEntry C). n.round) (sym is) ∙ waiting.3 in
      under_way g b (slice_set t.nodes i (begun_in begins.0 i)) i begins.2 round (omega (arith, depth)) (begun_round_way t.nodes i t.round begins.0 begins.1 none no_round (way_of g t u) each later)

  -- t: before the round; b: begun; d: all is found; t': the number has its form
  pub round_done : (t b d t' : Table S C) (k : Key S) (i : ℕ) (annotations : Option Value) (p : NodePlan C) → length t.nodes ≡ length t.keys → slice_get t.keys i ≡ Some k → Waits t.nodes i → Begins t.nodes i i b.nodes → b.keys ≡ t.keys → b.round ≡ i → b.depth ≡ 0 → b.loose ≡ false
      → Goes g b d (asked_edges g.parts k) (node_edges p) → Fills d.nodes i (not d.loose) annotations p t'.nodes → t'.keys ≡ d.keys → t'.round ≡ d.round → t'.depth ≡ d.depth → t'.loose ≡ d.loose
      → IsUnderWay g t' × ((c : Course S) → WorksOff g.parts g.nested (suc i) (course_of t') c → WorksOff g.parts g.nested i (course_of t) c)
  round_done t b d t' k i annotations p lengths at waiting begins b_keys b_round b_depth b_loose goes fills keys round depth loose = (
    filled_way d t' i (begun_in begins.0 i) annotations p goes.under_way there none of_now goes.now fills round (let l = goes.under_way.nested in rw depth l),
    λ c rest. in_a_round k (course_of d) at (in_map standing_of t.nodes i waiting.0 waiting.1 ∙ ap (λ (s : Standing). Some s) (stands_waiting waiting.0 waiting.2 waiting.3))
        (subst (λ (x : Course S). Finds g.parts g.nested x (asked_edges g.parts k) (course_of d)) begin_course goes.finds)
        (subst (λ (x : Course S). WorksOff g.parts g.nested (suc i) x c) form_course rest),
  )
    where
      is : waiting.0 ≡ begins.0
      is = some_is waiting.0 begins.0 (sym waiting.1 ∙ begins.1)

      none : begins.0.plan ≡ None
      none = ap (λ (n : NodeEntry C). n.plan) (sym is) ∙ waiting.2

      there : slice_get d.nodes i ≡ Some (begun_in begins.0 i)
      there = goes.stay i (begun_in begins.0 i) (ap (λ (ns : List (NodeEntry C)). slice_get ns i) begins.2 ∙ get-set_same t.nodes i (begun_in begins.0 i) (slice_get_within t.nodes i begins.0 begins.1))

      of_now : (begun_in begins.0 i).round ≡ Some d.round
      of_now = ap (λ (r : ℕ). Some r) (sym (goes.same_round ∙ b_round))

      begin_course : course_of b ≡ round_begun (course_of t) i
      begin_course = course_is (course_of b) (round_begun (course_of t) i) b_keys
          (ap (map standing_of) begins.2 ∙ map-set standing_of t.nodes i (begun_in begins.0 i) ∙ ap (slice_set (map standing_of t.nodes) i) (stands_open (begun_in begins.0 i) i none refl))
          b_round b_depth b_loose

      form_course : course_of t' ≡ formed (course_of d) i
      form_course = course_is (course_of t') (formed (course_of d) i) keys (standing_formed d t' i (begun_in begins.0 i) annotations p there of_now fills) round depth loose

-- one more open target is no more than may nest
pub deeper : (nests : Bool) (depth nested new : ℕ) → new ≡ (if nests then suc depth else depth) → depth ≤ nested → (nests ≡ true → depth < nested) → new ≤ nested
deeper true depth nested new e le room = let l = room refl in omega arith
deeper false depth nested new e le room = omega arith

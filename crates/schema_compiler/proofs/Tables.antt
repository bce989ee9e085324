-- The table after a number is reserved, and after it gets its form.
use Rattle.std.proofs.Common.{Bool, ◌≡◌, ◌≢◌, ℕ, suc, ◌<◌, inl, inr, List, [], ◌∷◌, ◌++◌, length, refl, ap, sym, ◌∙◌, subst, arith, append_assoc}
use Rattle.std.specs.Prelude.{Option, Some, None, option_map, slice_get}
use Rattle.std.proofs.lemmas.Option.{slice_get_within}
use Rattle.serde_json.specs.View.{view}
use Rattle.serde_json.specs.declared.value.Value.{Value}
use Rattle.theory_definitions.specs.Parts.{Parts}
use Rattle.theory_definitions.specs.Units.{annotations_of}
use Rattle.theory_definitions.specs.Plan.{Key}
use Rattle.theory_definitions.specs.Guarded.{NodePlan}
use Rattle.schema_node_table.specs.NodeTable.{Begins, Fills, NodeEntry, Waits, begun_in, filled, filled_count}
use Rattle.schema_keys.specs.Refusing.{AreDistinct}
use Rattle.schema_keys.specs.ShownBases.{shown_base}
use Rattle.schema_compiler.specs.Filling.{Finishes, HasFormOrWaits, IsGrown, IsNode, IsPlanned, IsTable}
use Rattle.schema_keys.proofs.Lists.{equal_or, get-append, get-end, get-pushed, get-set_other, get-set_same, length-more, set-length, some_is}
use Rattle.schema_compiler.proofs.Growing.{node_stays}

pub pushed_distinct : {S : Type 0} (keys : List (Key S)) (k : Key S) → AreDistinct keys → ((i : ℕ) → slice_get keys i ≢ Some k) → AreDistinct (keys ++ k ∷ [])
pushed_distinct keys k d absent i j q at at' = elim (get-pushed keys k i q at) [
  | inl h ↦ elim (get-pushed keys k j q at') [
    | inl h' ↦ d i j q h h'
    | inr h' ↦ absurd (absent i (subst (λ x. slice_get keys i ≡ Some x) (sym h'.1) h))
  ]
  | inr h ↦ elim (get-pushed keys k j q at') [
    | inl h' ↦ absurd (absent j (subst (λ x. slice_get keys j ≡ Some x) (sym h.1) h'))
    | inr h' ↦ h.0 ∙ sym h'.0
  ]
]

module _ {S K R C : Type 0} (w : Parts S K R) (shape : C → K) (limit : ℕ) where
  pub reserved_table : (keys keys' : List (Key S)) (nodes nodes' : List (NodeEntry C)) (k : Key S) (n : NodeEntry C) → IsTable w shape limit keys nodes
      → ((i : ℕ) → slice_get keys i ≢ Some k) → length keys < limit → keys' ≡ keys ++ k ∷ [] → nodes' ≡ nodes ++ n ∷ []
      → n.plan ≡ None → n.location ≡ k.location → n.base ≡ shown_base w k → n.start ≡ k.start → IsTable w shape limit keys' nodes'
  reserved_table keys keys' nodes nodes' k n t absent room e f none location base start =
      let own : IsNode w shape (keys ++ k ∷ []) k n = record { location = location; base = base; start = start; planned = λ p at. absurd (let g : ⊥ = cc in g); annotated = λ p at. absurd (let g : ⊥ = cc in g) } in
      rw (e, f) (record {
        lengths = length-more nodes n ∙ ap suc t.lengths ∙ sym (length-more keys k);
        within = let l = length-more keys k in omega arith;
        distinct = pushed_distinct keys k t.distinct absent;
        stands = λ i q m at at'. elim (get-pushed nodes n i m at') [
          | inl h' ↦ elim (get-pushed keys k i q at) [
            | inl h ↦ node_stays w shape keys (keys ++ k ∷ []) (λ j x h0. get-append keys (k ∷ []) j x h0) q m (t.stands i q m h h')
            | inr h ↦ let l = slice_get_within nodes i m h' in let e' = t.lengths in absurd (let at0 = h.0 in omega arith)
          ]
          | inr h' ↦ elim (get-pushed keys k i q at) [
            | inl h ↦ let l = slice_get_within keys i q h in let e' = t.lengths in absurd (let at0 = h'.0 in omega arith)
            | inr h ↦ subst (λ x. IsNode w shape (keys ++ k ∷ []) x m) h.1 (subst (λ x. IsNode w shape (keys ++ k ∷ []) k x) h'.1 own)
          ]
        ];
      })

  -- ---- a number is begun

  pub begun_table : (keys : List (Key S)) (nodes nodes' : List (NodeEntry C)) (i r : ℕ) → IsTable w shape limit keys nodes → Waits nodes i → Begins nodes i r nodes' → IsTable w shape limit keys nodes'
  begun_table keys nodes nodes' i r t waits begins =
      let now = begun_in begins.0 r in
      let within = slice_get_within nodes i begins.0 begins.1 in
      let now_at : slice_get nodes' i ≡ Some now = subst (λ (ns : List (NodeEntry C)). slice_get ns i ≡ Some now) (sym begins.2) (get-set_same nodes i now within) in
      let others : (j : ℕ) → j ≢ i → slice_get nodes' j ≡ slice_get nodes j = λ j ne. ap (λ (ns : List (NodeEntry C)). slice_get ns j) begins.2 ∙ get-set_other nodes i j now ne in
      record {
        lengths = ap length begins.2 ∙ set-length nodes i now ∙ t.lengths;
        within = t.within;
        distinct = t.distinct;
        stands = λ j q m at' here. elim (equal_or j i) [
          | inl e ↦
              let old = t.stands i q begins.0 (subst (λ l. slice_get keys l ≡ Some q) e at') begins.1 in
              let m-is : now ≡ m = some_is now m (sym now_at ∙ sym (ap (slice_get nodes') e) ∙ here) in
              let own : IsNode w shape keys q now = record { location = old.location; base = old.base; start = old.start; planned = old.planned; annotated = old.annotated } in
              subst (λ x. IsNode w shape keys q x) m-is own
          | inr ne ↦ t.stands j q m at' (sym (others j ne) ∙ here)
        ];
      }

  -- ---- a number gets its form

  module _ (keys : List (Key S)) (nodes nodes' : List (NodeEntry C)) (i : ℕ) (k : Key S) (settled : Bool) (annotations : Option Value) (p : NodePlan C) (t : IsTable w shape limit keys nodes)
      (at : slice_get keys i ≡ Some k) (fills : Fills nodes i settled annotations p nodes') where
    abbrev now : NodeEntry C
    now = filled fills.0 (filled_count nodes) settled annotations p

    below : i < length nodes
    below = slice_get_within nodes i fills.0 fills.1

    pub same_length : length nodes' ≡ length nodes
    same_length = ap length fills.2 ∙ set-length nodes i now

    pub now_at : slice_get nodes' i ≡ Some now
    now_at = subst (λ (ns : List (NodeEntry C)). slice_get ns i ≡ Some now) (sym fills.2) (get-set_same nodes i now below)

    pub others : (j : ℕ) → j ≢ i → slice_get nodes' j ≡ slice_get nodes j
    others j ne = ap (λ (ns : List (NodeEntry C)). slice_get ns j) fills.2 ∙ get-set_other nodes i j now ne

    pub finished_table : IsPlanned w shape keys k p → option_map view annotations ≡ annotations_of w k → IsTable w shape limit keys nodes'
    finished_table planned annotated = record {
      lengths = same_length ∙ t.lengths;
      within = t.within;
      distinct = t.distinct;
      stands = λ j q m at' here. elim (equal_or j i) [
        | inl e ↦
            let q-is : k ≡ q = some_is k q (sym at ∙ sym (ap (slice_get keys) e) ∙ at') in
            let m-is : now ≡ m = some_is now m (sym now_at ∙ sym (ap (slice_get nodes') e) ∙ here) in
            let old = t.stands i k fills.0 at fills.1 in
            let own : IsNode w shape keys k now = record { location = old.location; base = old.base; start = old.start; planned = λ p' e'. subst (λ x. IsPlanned w shape keys k x) (some_is p p' e') planned; annotated = λ p' e'. annotated } in
            subst (λ x. IsNode w shape keys x m) q-is (subst (λ x. IsNode w shape keys k x) m-is own)
        | inr ne ↦ t.stands j q m at' (sym (others j ne) ∙ here)
      ];
    }

-- the number of a key that was reserved
pub numbered_after : {S : Type 0} (keys keys' keys'' added : List (Key S)) (k : Key S) (n : ℕ) → n ≡ length keys → keys' ≡ keys ++ k ∷ [] → keys'' ≡ keys' ++ added → slice_get keys'' n ≡ Some k
numbered_after {S} keys keys' keys'' added k n e e' e'' =
    let at : slice_get (keys ++ k ∷ []) n ≡ Some k = ap (slice_get (keys ++ k ∷ [])) e ∙ get-end keys k in
    let at' : slice_get keys' n ≡ Some k = subst (λ (ks : List (Key S)). slice_get ks n ≡ Some k) (sym e') at in
    subst (λ (ks : List (Key S)). slice_get ks n ≡ Some k) (sym e'') (get-append keys' added n k at')

pub reserved_after : {C : Type 0} (nodes nodes' nodes'' : List (NodeEntry C)) (n : NodeEntry C) (i : ℕ) → i ≡ length nodes → nodes' ≡ nodes ++ n ∷ []
    → ((j : ℕ) (m : NodeEntry C) → slice_get nodes' j ≡ Some m → slice_get nodes'' j ≡ Some m) → slice_get nodes'' i ≡ Some n
reserved_after {C} nodes nodes' nodes'' n i e e' stay =
    let at : slice_get (nodes ++ n ∷ []) i ≡ Some n = ap (slice_get (nodes ++ n ∷ [])) e ∙ get-end nodes n in
    stay i n (subst (λ (ns : List (NodeEntry C)). slice_get ns i ≡ Some n) (sym e') at)

-- a number that is filled has got a form
pub finishes : {C : Type 0} (nodes nodes' : List (NodeEntry C)) (i : ℕ) (settled : Bool) (annotations : Option Value) (p : NodePlan C) → Fills nodes i settled annotations p nodes' → Finishes nodes i nodes'
finishes nodes nodes' i settled annotations p fills = (filled fills.0 (filled_count nodes) settled annotations p, p, refl, fills.2)

-- a number was put on the list
pub put_grown : {S C : Type 0} (P : Key S → Type 0) (keys keys' : List (Key S)) (nodes nodes' : List (NodeEntry C)) (k : Key S) (n : NodeEntry C) → length nodes ≡ length keys → keys' ≡ keys ++ k ∷ [] → nodes' ≡ nodes ++ n ∷ [] → n.plan ≡ None → n.round ≡ None → P k
    → IsGrown P keys keys' nodes nodes'
put_grown {S} {C} P keys keys' nodes nodes' k n len ek en none unbegun p = record {
  added = (k ∷ [], ek, (p, tt));
  stay = λ j m at. subst (λ (ns : List (NodeEntry C)). slice_get ns j ≡ Some m) (sym en) (get-append nodes (n ∷ []) j m at);
  filled = λ j m le at. elim (get-pushed nodes n j m (subst (λ (ns : List (NodeEntry C)). slice_get ns j ≡ Some m) en at)) [
    | inl old ↦ absurd (let w = slice_get_within nodes j m old in omega arith)
    | inr new ↦ subst (λ (x : NodeEntry C). HasFormOrWaits x) new.1 (inr (none, unbegun))
  ];
}

-- a number was reserved, the table grew, and the number got its form
pub finished_grown : {S C : Type 0} (P : Key S → Type 0) (keys keys' keys'' keys''' : List (Key S)) (nodes nodes' nodes'' nodes''' : List (NodeEntry C)) (k : Key S) (n : NodeEntry C) (i : ℕ)
    → length nodes ≡ length keys → i ≡ length nodes → keys' ≡ keys ++ k ∷ [] → nodes' ≡ nodes ++ n ∷ [] → P k → IsGrown P keys' keys'' nodes' nodes'' → keys''' ≡ keys'' → Finishes nodes'' i nodes'''
    → IsGrown P keys keys''' nodes nodes'''
finished_grown {S} {C} P keys keys' keys'' keys''' nodes nodes' nodes'' nodes''' k n i len at ek en p g same fin =
    let len' : length keys' ≡ suc (length keys) = ap length ek ∙ length-more keys k in
    record {
      added = (k ∷ g.added.0, same ∙ g.added.1 ∙ ap (λ ks. ks ++ g.added.0) ek ∙ append_assoc keys (k ∷ []) g.added.0, (p, g.added.2));
      stay = λ j m there'.
          let w = slice_get_within nodes j m there' in
          let other : j ≢ i = λ e. absurd (omega (arith, e, at, w)) in
          ap (λ (ns : List (NodeEntry C)). slice_get ns j) fin.3 ∙ get-set_other nodes'' i j fin.0 other
          ∙ g.stay j m (subst (λ (ns : List (NodeEntry C)). slice_get ns j ≡ Some m) (sym en) (get-append nodes (n ∷ []) j m there'));
      filled = λ j m le here. elim (equal_or j i) [
        | inl e ↦
            let w = slice_get_within nodes''' j m here in
            let l = ap length fin.3 ∙ set-length nodes'' i fin.0 in
            let here' : slice_get nodes''' i ≡ Some fin.0 = ap (λ (ns : List (NodeEntry C)). slice_get ns i) fin.3 ∙ get-set_same nodes'' i fin.0 (omega (arith, e, w, l)) in
            let is : fin.0 ≡ m = some_is fin.0 m (sym here' ∙ sym (ap (slice_get nodes''') e) ∙ here) in
            subst (λ (x : NodeEntry C). HasFormOrWaits x) is (inl (fin.1, fin.2))
        | inr ne ↦ g.filled j m (omega (arith, ne, le, len, len', at)) (sym (ap (λ (ns : List (NodeEntry C)). slice_get ns j) fin.3 ∙ get-set_other nodes'' i j fin.0 ne) ∙ here)
      ];
    }

-- the number of a key that was put on the list
pub put_number : {S : Type 0} (keys keys' : List (Key S)) (k : Key S) (n : ℕ) → n ≡ length keys → keys' ≡ keys ++ k ∷ [] → slice_get keys' n ≡ Some k
put_number {S} keys keys' k n e e' = subst (λ (ks : List (Key S)). slice_get ks n ≡ Some k) (sym e') (ap (slice_get (keys ++ k ∷ [])) e ∙ get-end keys k)

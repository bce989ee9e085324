-- Keywords that are inserted one after another are sorted, and those of one priority keep their
-- order.
use Rattle.std.proofs.Common.{inl, inr, ℕ, zero, suc, ◌≡◌, ◌∙◌, ◌<◌, ◌+◌, ◌++◌, Bool, true, false, cond, ltb, List, [], ◌∷◌, length, map, ap, sym, refl, subst, arith}
use Rattle.std.specs.Prelude.{None, Some, insert, nat_le, not, unwrap_or}
use Rattle.std.specs.List.{position_or_len}
use Rattle.std.proofs.lemmas.List.Sums.{prefix_len-le-length}
use Rattle.std.proofs.lemmas.Bool.{leb-true, le-leb, ltb-false, ltb-true}
use Rattle.std.proofs.lemmas.Bool.Decides.{leb_tells}
use Rattle.theory_definitions.specs.Parts.{Parts}
use Rattle.theory_definitions.specs.Plan.{Key, Part, placed, sorted}
use Rattle.theory_definitions.specs.Guarded.{NodePart}
use Rattle.schema_node_table.specs.NodeViews.{entry_of}
use Rattle.schema_node_table.specs.declared.node.Entry.{Entry}
use Rattle.schema_compiler.specs.Ordering.{placed_after}
use Rattle.schema_compiler.specs.Filling.{AreParts, IsPart}

not_le : (m n : ℕ) → n < m → nat_le m n ≡ false
not_le m n h =
    let go : (b : Bool) → nat_le m n ≡ b → b ≡ false = elim [ true ↦ λ e. absurd (let l = leb-true m n e in omega arith) | false ↦ λ e. refl ] in
    go (nat_le m n) refl

is_more : (m n : ℕ) → nat_le m n ≡ false → n < m
is_more m n e = elim (leb_tells m n) [ inl h ↦ absurd (let a = h.0 in cc) | inr h ↦ h.1 ]

module _ {K : Type 0} where
  abbrev after : Part K → List (Part K) → List (Part K)
  after y [] = y ∷ []
  after y (z ∷ zs) = cond (nat_le z.priority y.priority) (z ∷ after y zs) (y ∷ z ∷ zs)

  -- inserting one from the front and another from the back commutes
  swapped : (x y : Part K) (zs : List (Part K)) → placed x (after y zs) ≡ after y (placed x zs)
  swapped x y [] = refl
  swapped x y (z ∷ zs) =
      let le : Part K → Part K → Bool = λ a b. nat_le a.priority b.priority in
      let go : (a b c : Bool) → le z y ≡ a → le x z ≡ b → le x y ≡ c → placed x (after y (z ∷ zs)) ≡ after y (placed x (z ∷ zs)) = elim [
        | true ↦ elim [
          | true ↦ λ c e1 e2 e3.
              let e4 : nat_le x.priority y.priority ≡ true = le-leb x.priority y.priority (let p = leb-true z.priority y.priority e1 in let q = leb-true x.priority z.priority e2 in omega arith) in
              rw (e1, e2, e4, e1) refl
          | false ↦ λ c e1 e2 e3. rw (e1, e2, e1) (ap (λ ws. z ∷ ws) (swapped x y zs))
        ]
        | false ↦ elim [
          | true ↦ elim [ true ↦ λ e1 e2 e3. rw (e1, e3, e2, e3, e1) refl | false ↦ λ e1 e2 e3. rw (e1, e3, e2, e3) refl ]
          | false ↦ λ c e1 e2 e3.
              let e4 : nat_le x.priority y.priority ≡ false = not_le x.priority y.priority (let p = is_more z.priority y.priority e1 in let q = is_more x.priority z.priority e2 in omega arith) in
              rw (e1, e4, e2, e1) refl
        ]
      ] in
      go (le z y) (le x z) (le x y) refl refl refl

  sorted_more : (ps : List (Part K)) (y : Part K) → sorted (ps ++ y ∷ []) ≡ after y (sorted ps)
  sorted_more [] y = refl
  sorted_more (p ∷ ps) y = ap (placed p) (sorted_more ps y) ∙ swapped p y (sorted ps)

module _ {S K R C : Type 0} (w : Parts S K R) (shape : C → K) (keys : List (Key S)) (k : Key S) where
  after_parts : (x : NodePart C) (y : Part K) (xs : List (NodePart C)) (zs : List (Part K)) → IsPart w keys shape k x y → AreParts w keys shape k xs zs → AreParts w keys shape k (placed_after x xs) (after y zs)
  after_parts x y [] [] h hs = (h, tt)
  after_parts x y [] (z ∷ zs) h hs = absurd hs
  after_parts x y (u ∷ xs) [] h hs = absurd hs
  after_parts x y (u ∷ xs) (z ∷ zs) h hs =
      let same : nat_le u.priority x.priority ≡ nat_le z.priority y.priority = ap (λ n. nat_le n x.priority) hs.0.priority ∙ ap (nat_le z.priority) h.priority in
      let go : (b : Bool) → AreParts w keys shape k (cond b (u ∷ placed_after x xs) (x ∷ u ∷ xs)) (cond b (z ∷ after y zs) (y ∷ z ∷ zs)) = elim [ true ↦ (hs.0, after_parts x y xs zs h hs.1) | false ↦ (h, hs) ] in
      subst (λ b. AreParts w keys shape k (cond (nat_le u.priority x.priority) (u ∷ placed_after x xs) (x ∷ u ∷ xs)) (cond b (z ∷ after y zs) (y ∷ z ∷ zs))) same (go (nat_le u.priority x.priority))

  -- one more part is inserted
  pub one_placed : (x : NodePart C) (y : Part K) (xs : List (NodePart C)) (ps : List (Part K)) → IsPart w keys shape k x y → AreParts w keys shape k xs (sorted ps)
      → AreParts w keys shape k (placed_after x xs) (sorted (ps ++ y ∷ []))
  one_placed x y xs ps h hs = subst (λ zs. AreParts w keys shape k (placed_after x xs) zs) (sym (sorted_more ps y)) (after_parts x y xs (sorted ps) h hs)

-- ---- the place of a keyword

-- the result of `position`, or else the length
pub first_or_end : {A : Type 0} (test : A → Bool) (xs : List A)
    → unwrap_or (cond (ltb (position_or_len test xs) (length xs)) (Some (position_or_len test xs)) None) (length xs) ≡ position_or_len test xs
first_or_end test xs =
    let n = position_or_len test xs in
    let within = prefix_len-le-length (λ x. not (test x)) xs in
    let go : (b : Bool) → ltb n (length xs) ≡ b → unwrap_or (cond b (Some n) None) (length xs) ≡ n = elim [ true ↦ λ e. refl | false ↦ λ e. let l = ltb-false n (length xs) e in omega (arith, within) ] in
    go (ltb n (length xs)) refl

-- the place before the first keyword of a higher priority
pub placed_first : {C : Type 0} (es : List (Entry C)) (x : NodePart C) → insert (map entry_of es) (position_or_len (λ e. ltb x.priority e.priority) es) x ≡ placed_after x (map entry_of es)
placed_first [] x = refl
placed_first (e ∷ es) x =
    let n = position_or_len (λ (y : Entry _). ltb x.priority y.priority) es in
    let go : (b : Bool) → ltb x.priority e.priority ≡ b
    → insert (map entry_of (e ∷ es)) (cond (not b) (1 + n) 0) x ≡ placed_after x (map entry_of (e ∷ es)) = elim [
      | true ↦ λ h. rw (not_le e.priority x.priority (ltb-true x.priority e.priority h)) refl
      | false ↦ λ h. let more : 1 + n ≡ suc n = omega arith in rw (more, le-leb e.priority x.priority (ltb-false x.priority e.priority h)) (ap (λ zs. entry_of e ∷ zs) (placed_first es x))
    ] in
    go (ltb x.priority e.priority) refl

pub mapped_insert : {A B : Type 0} (v : A → B) (xs : List A) (n : ℕ) (x : A) → map v (insert xs n x) ≡ insert (map v xs) n (v x)
mapped_insert v xs zero x = refl
mapped_insert v [] (suc n) x = refl
mapped_insert v (y ∷ ys) (suc n) x = ap (λ zs. v y ∷ zs) (mapped_insert v ys n x)

-- An item whose slot no other item has equals none, so the items with shared slots decide whether
-- all are distinct.
use Rattle.std.proofs.Common.{◌≡◌, ◌∙◌, ◌+◌, ◌<◌, ◌≢◌, ◌&&◌, ◌==◌, ◌↔◌, Bool, IsTrue, List, [], ◌∷◌, ℕ, suc, ap, arith, cond, eq-eqb, false, get_or, get_or-set_other, get_or-set_same, inl, inr, length, length-set, map, refl, set, subst, sym, true, true≢false}
use Rattle.std.specs.List.{AllByRecursion, IsDistinct, filter}
use Rattle.std.proofs.lemmas.Bool.{cases_order}
use Rattle.std.proofs.lemmas.Bool.Decides.{nat_tests}
use Rattle.std.proofs.lemmas.List.{get_or-map}
use Rattle.json_values.specs.Keys.{IsMarked, is_shared, slot_of}

-- ---- the table of slots, with one more item

earlier : (slot : ℕ → ℕ) (i n : ℕ) → i < n + 1 → slot i ≢ slot n → i < n
earlier slot i n less ne = elim (cases_order i n) [ inl same ↦ absurd (ne (ap slot same)) | inr other ↦ omega arith ]

module _ (met : List ℕ) (slot : ℕ → ℕ) (n v : ℕ) (within : slot n < length met) (some : (i : ℕ) → i < n → 0 < get_or met (slot i) 0) where
  pub some_more : 0 < v → (i : ℕ) → i < n + 1 → 0 < get_or (set met (slot n) v) (slot i) 0
  some_more positive i less = elim (cases_order (slot i) (slot n)) [
    | inl same ↦ rw same (rw get_or-set_same positive)
    | inr other ↦ let ne : slot i ≢ slot n = omega arith in rw get_or-set_other (some i (earlier slot i n less ne))
  ]

  pub marked_more : (0 < get_or met (slot n) 0 → v ≡ 2) → ((i j : ℕ) → i < j → j < n → slot i ≡ slot j → get_or met (slot j) 0 ≡ 2)
      → (i j : ℕ) → i < j → j < n + 1 → slot i ≡ slot j → get_or (set met (slot n) v) (slot j) 0 ≡ 2
  marked_more more marked i j less last same = elim (cases_order (slot j) (slot n)) [
    | inl here ↦ rw here (rw get_or-set_same (more (subst (λ s. 0 < get_or met s 0) (same ∙ here) (some i (omega arith)))))
    | inr other ↦ let ne : slot j ≢ slot n = omega arith in rw get_or-set_other (marked i j less (earlier slot j n last ne) same)
  ]

-- the slots of the first keys have marks
abbrev pub HaveMarks : List ℕ → List ℕ → ℕ → Type 0
HaveMarks met keys count = (i : ℕ) → i < count → 0 < get_or met (slot_of (get_or keys i 0) (length met)) 0

module _ (met keys : List ℕ) (n s v : ℕ) (within : s < length met) (is : s ≡ slot_of (get_or keys n 0) (length met)) (some : HaveMarks met keys n) where
  slot : ℕ → ℕ
  slot i = slot_of (get_or keys i 0) (length met)

  pub have_one_more : 0 < v → HaveMarks (set met s v) keys (n + 1)
  unfolding slot
  have_one_more positive i less =
      rw (length-set met s v, is) (some_more met slot n v (subst (λ t. t < length met) is within) some positive i less)

  pub mark_one_more : (0 < get_or met s 0 → v ≡ 2) → IsMarked met keys n → IsMarked (set met s v) keys (n + 1)
  unfolding slot
  mark_one_more more marked i j less last same =
      rw (length-set met s v, is) (marked_more met slot n v (subst (λ t. t < length met) is within) some
      (subst (λ t. 0 < get_or met t 0 → v ≡ 2) is more) marked i j less last (rw (length-set met s v) at same))

-- ---- leaving out items that are equal to none

untrue : (b : Bool) → (b ≡ true → ⊥) → b ≡ false
untrue true h = absurd (h refl)
untrue false h = refl

all_at : {K : Type 0} (P : K → Type 0) (ys : List K) → ((k : ℕ) (d : K) → k < length ys → P (get_or ys k d)) → AllByRecursion P ys
all_at P [] h = tt
all_at P (y ∷ ys) h = (h 0 y (omega arith), all_at P ys (λ k d less. h (suc k) d (omega arith)))

module _ {K : Type 0} (e : K → K → Bool) (p : K → Bool) where
  -- equal items pass
  abbrev EqualPass : List K → Type 0
  EqualPass [] = Unit {0}
  EqualPass (x ∷ xs) = AllByRecursion (λ y. e x y ≡ true → (p x ≡ true) × (p y ≡ true)) xs × EqualPass xs

  equal_pass : (xs : List K) → ((i j : ℕ) (d : K) → i < j → j < length xs → e (get_or xs i d) (get_or xs j d) ≡ true → (p (get_or xs i d) ≡ true) × (p (get_or xs j d) ≡ true)) → EqualPass xs
  equal_pass [] h = tt
  equal_pass (x ∷ xs) h = (
    all_at (λ y. e x y ≡ true → (p x ≡ true) × (p y ≡ true)) xs (λ k d less. h 0 (suc k) d (omega arith) (omega arith)),
    equal_pass xs (λ i j d less within. h (suc i) (suc j) d (omega arith) (omega arith)),
  )

  apart_kept : (x : K) (ys : List K) → AllByRecursion (λ y. e x y ≡ false) ys → AllByRecursion (λ y. e x y ≡ false) (filter p ys)
  apart_kept x [] h = tt
  apart_kept x (y ∷ ys) h =
      elim (p y) as (λ b. AllByRecursion (λ z. e x z ≡ false) (cond b (y ∷ filter p ys) (filter p ys))) [
        | true ↦ (h.0, apart_kept x ys h.1)
        | false ↦ apart_kept x ys h.1
      ]

  pub distinct_kept : (xs : List K) → IsDistinct e xs → IsDistinct e (filter p xs)
  unfolding IsDistinct
  distinct_kept [] h = tt
  distinct_kept (x ∷ xs) h =
      elim (p x) as (λ b. IsDistinct e (cond b (x ∷ filter p xs) (filter p xs))) [
        | true ↦ (apart_kept x xs h.0, distinct_kept xs h.1)
        | false ↦ distinct_kept xs h.1
      ]

  kept_first : (q : Bool) (x y : K) (ys : List K) → (e x y ≡ true → q ≡ true) → AllByRecursion (λ z. e x z ≡ false) (cond q (y ∷ ys) ys)
      → (e x y ≡ false) × AllByRecursion (λ z. e x z ≡ false) ys
  kept_first true x y ys pass h = h
  kept_first false x y ys pass h = (untrue (e x y) (λ same. true≢false (sym (pass same))), h)

  kept_apart : (x : K) (ys : List K) → AllByRecursion (λ y. e x y ≡ true → (p x ≡ true) × (p y ≡ true)) ys
      → AllByRecursion (λ y. e x y ≡ false) (filter p ys) → AllByRecursion (λ y. e x y ≡ false) ys
  kept_apart x [] pass h = tt
  kept_apart x (y ∷ ys) pass h =
      let parts = kept_first (p y) x y (filter p ys) (λ same. (pass.0 same).1) h in (parts.0, kept_apart x ys pass.1 parts.1)

  never_equal : (x : K) (ys : List K) → p x ≡ false → AllByRecursion (λ y. e x y ≡ true → (p x ≡ true) × (p y ≡ true)) ys → AllByRecursion (λ y. e x y ≡ false) ys
  never_equal x [] fails pass = tt
  never_equal x (y ∷ ys) fails pass = (untrue (e x y) (λ same. true≢false (sym (pass.0 same).0 ∙ fails)), never_equal x ys fails pass.1)

  first_kept : (q : Bool) (x : K) (xs : List K) → p x ≡ q → AllByRecursion (λ y. e x y ≡ true → (p x ≡ true) × (p y ≡ true)) xs
      → IsDistinct e (cond q (x ∷ filter p xs) (filter p xs)) → AllByRecursion (λ y. e x y ≡ false) xs × IsDistinct e (filter p xs)
  unfolding IsDistinct
  first_kept true x xs is pass h = (kept_apart x xs pass h.0, h.1)
  first_kept false x xs is pass h = (never_equal x xs is pass, h)

  kept_distinct : (xs : List K) → EqualPass xs → IsDistinct e (filter p xs) → IsDistinct e xs
  unfolding IsDistinct
  kept_distinct [] pass h = tt
  kept_distinct (x ∷ xs) pass h = let parts = first_kept (p x) x xs refl pass.0 h in (parts.0, kept_distinct xs pass.1 parts.1)

-- items with equal keys share a slot, so the items with shared slots decide whether all are
-- distinct, if equal items have equal keys
module _ {X : Type 0} (e : ℕ × X → ℕ × X → Bool) (same_key : (k l : ℕ × X) → e k l ≡ true → k.0 ≡ l.0) (met : List ℕ) where
  equal_shared : (ks : List (ℕ × X)) → IsMarked met (map (λ k. k.0) ks) (length ks) → (i j : ℕ) (d : ℕ × X) → i < j → j < length ks
      → e (get_or ks i d) (get_or ks j d) ≡ true → (is_shared met (get_or ks i d).0 ≡ true) × (is_shared met (get_or ks j d).0 ≡ true)
  equal_shared ks marked i j d less within same =
      let one = same_key (get_or ks i d) (get_or ks j d) same in
      let a = get_or-map (λ (k : ℕ × X). k.0) ks i d 0 (omega arith) in
      let b = get_or-map (λ (k : ℕ × X). k.0) ks j d 0 within in
      let more = marked i j less within (ap (λ k. slot_of k (length met)) (a ∙ one ∙ sym b)) in
      let last : is_shared met (get_or ks j d).0 ≡ true = eq-eqb _ _ (ap (λ k. get_or met (slot_of k (length met)) 0) (sym b) ∙ more) in
      (ap (is_shared met) one ∙ last, last)

  pub distinct_by_shared : (ks : List (ℕ × X)) → IsMarked met (map (λ k. k.0) ks) (length ks) → IsDistinct e (filter (λ k. is_shared met k.0) ks) → IsDistinct e ks
  distinct_by_shared ks marked h = kept_distinct e (λ k. is_shared met k.0) ks (equal_pass e (λ k. is_shared met k.0) ks (equal_shared ks marked)) h

share_key : (a b : ℕ) (t : Bool) → ((a == b) && t) ≡ true → a ≡ b
share_key a b t h = grind (arith, nat_tests)

module _ {X : Type 0} (e : X → X → Bool) (met : List ℕ) (ks : List (ℕ × X)) where
  both_equal : ℕ × X → ℕ × X → Bool
  both_equal k l = (k.0 == l.0) && e k.1 l.1

  pub distinct_if_shared : (seen kept : List (ℕ × X)) (b : Bool) → seen ≡ ks → IsMarked met (map (λ k. k.0) seen) (length seen)
      → kept ≡ filter (λ k. is_shared met k.0) ks → (IsTrue b ↔ IsDistinct (λ k l. (k.0 == l.0) && e k.1 l.1) kept)
      → (IsTrue b ↔ IsDistinct (λ k l. (k.0 == l.0) && e k.1 l.1) ks)
  unfolding both_equal
  distinct_if_shared seen kept b read marked is test = (
    λ yes. distinct_by_shared both_equal (λ k l. share_key k.0 l.0 (e k.1 l.1)) met ks
        (subst (λ l. IsMarked met (map (λ k. k.0) l) (length l)) read marked) (subst (IsDistinct both_equal) is (test.0 yes)),
    λ h. test.1 (subst (IsDistinct both_equal) (sym is) (distinct_kept both_equal (λ k. is_shared met k.0) ks h)),
  )

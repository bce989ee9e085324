-- Indexes by hash: adding an element, and looking one up.
use Rattle.std.proofs.Common.{◌≡◌, ℕ, zero, suc, ◌<◌, Bool, true, false, cond, List, [], ◌∷◌, ◌++◌, length, map, nat_eq, refl, ap, sym, ◌∙◌, subst, arith, true≢false}
use Rattle.std.specs.Prelude.{None, Option, Some, find, is_some, option_map, slice_get, ◌||◌}
use Rattle.std.specs.List.{list_any}
use Rattle.std.proofs.lemmas.Bool.{eqb-true, eq-eqb}
use Rattle.unfinished_matches.specs.HashIndex.{IsIndexed, first_of}

-- ---- an element is added

abbrev or_last : Option ℕ → Option ℕ → Option ℕ
or_last (Some n) last = Some n
or_last None last = last

first-append : (xs : List ℕ) (x h : ℕ) → first_of (xs ++ x ∷ []) h ≡ or_last (first_of xs h) (cond (nat_eq x h) (Some (length xs)) None)
first-append [] x h = go (nat_eq x h) where
  go : (b : Bool) → cond b (Some zero) None ≡ cond b (Some zero) None
  go b = refl
first-append (y ∷ xs) x h = go (nat_eq y h) (nat_eq x h) (first_of xs h) (first_of (xs ++ x ∷ []) h) (first-append xs x h) where
  go : (a b : Bool) (o o' : Option ℕ) → o' ≡ or_last o (cond b (Some (length xs)) None)
      → cond a (Some zero) (option_map (λ n. suc n) o') ≡ or_last (cond a (Some zero) (option_map (λ n. suc n) o)) (cond b (Some (suc (length xs))) None)
  go true b o o' e = refl
  go false b (Some n) o' e = ap (option_map (λ n. suc n)) e
  go false true None o' e = ap (option_map (λ n. suc n)) e
  go false false None o' e = ap (option_map (λ n. suc n)) e

-- a hash that has a position keeps it
pub indexed_again : (hashes : List ℕ) (first : ℕ → Option ℕ) (x : ℕ) → IsIndexed hashes first → is_some (first x) ≡ true → IsIndexed (hashes ++ x ∷ []) first
indexed_again hashes first x is has = λ h. go h (nat_eq x h) refl where
  kept : (o last : Option ℕ) → is_some o ≡ true → o ≡ or_last o last
  kept (Some n) last e = refl
  kept None last e = absurd (true≢false (sym e))

  same : (o : Option ℕ) → o ≡ or_last o None
  same (Some n) = refl
  same None = refl

  go : (h : ℕ) (b : Bool) → nat_eq x h ≡ b → first h ≡ first_of (hashes ++ x ∷ []) h
  go h true e = is h ∙ kept (first_of hashes h) (cond (nat_eq x h) (Some (length hashes)) None) (ap is_some (sym (is h)) ∙ subst (λ q. is_some (first q) ≡ true) (eqb-true x h e) has) ∙ sym (first-append hashes x h)
  go h false e = is h ∙ same (first_of hashes h) ∙ ap (λ b. or_last (first_of hashes h) (cond b (Some (length hashes)) None)) (sym e) ∙ sym (first-append hashes x h)

-- a new hash has the position of the new element
pub indexed_more : (hashes : List ℕ) (first first' : ℕ → Option ℕ) (x : ℕ) → IsIndexed hashes first → first x ≡ None
    → ((q : ℕ) → first' q ≡ cond (nat_eq x q) (Some (length hashes)) (first q)) → IsIndexed (hashes ++ x ∷ []) first'
indexed_more hashes first first' x is new updates = λ h. go h (nat_eq x h) refl where
  same : (o : Option ℕ) → o ≡ or_last o None
  same (Some n) = refl
  same None = refl

  go : (h : ℕ) (b : Bool) → nat_eq x h ≡ b → first' h ≡ first_of (hashes ++ x ∷ []) h
  go h true e =
      let none : first_of hashes h ≡ None = sym (is h) ∙ subst (λ q. first q ≡ None) (eqb-true x h e) new in
      updates h ∙ ap (λ b. cond b (Some (length hashes)) (first h)) e ∙ sym (first-append hashes x h ∙ ap (λ o. or_last o (cond (nat_eq x h) (Some (length hashes)) None)) none ∙ ap (λ b. cond b (Some (length hashes)) None) e)
  go h false e = updates h ∙ ap (λ b. cond b (Some (length hashes)) (first h)) e ∙ is h ∙ same (first_of hashes h) ∙ ap (λ b. or_last (first_of hashes h) (cond b (Some (length hashes)) None)) (sym e) ∙ sym (first-append hashes x h)

-- ---- looking an element up

first_none : (o : Option ℕ) → option_map (λ n. suc n) o ≡ None → o ≡ None
first_none None e = refl
first_none (Some n) e = absurd (let b : ⊥ = cc in b)

-- the position is one of the list
pub first_within : (hashes : List ℕ) (h n : ℕ) → first_of hashes h ≡ Some n → n < length hashes
first_within [] h n e = absurd (let b : ⊥ = cc in b)
first_within (x ∷ xs) h n e = go (nat_eq x h) (first_of xs h) (λ m k. first_within xs h m k) n e where
  go : (b : Bool) (o : Option ℕ) → ((m : ℕ) → o ≡ Some m → m < length xs) → (n : ℕ) → cond b (Some zero) (option_map (λ n. suc n) o) ≡ Some n → n < suc (length xs)
  go true o below zero e = omega arith
  go true o below (suc n) e = absurd (let b : ⊥ = cc in b)
  go false None below n e = absurd (let b : ⊥ = cc in b)
  go false (Some m) below n e = let same : suc m ≡ n = cc in let l = below m refl in omega arith

module _ {A : Type 0} (hash : A → ℕ) (is : A → Bool) (h : ℕ) (one_hash : (a : A) → is a ≡ true → hash a ≡ h) where
  other : (a : A) → nat_eq (hash a) h ≡ false → is a ≡ false
  other a e = go (is a) refl where
    go : (b : Bool) → is a ≡ b → is a ≡ false
    go false k = k
    go true k = absurd (true≢false (sym (eq-eqb (hash a) h (one_hash a k)) ∙ e))

  -- an element whose hash has no position is not in the list
  pub not_found : (xs : List A) → first_of (map hash xs) h ≡ None → find is xs ≡ None
  not_found [] e = refl
  not_found (x ∷ xs) e = go (nat_eq (hash x) h) refl (not_found xs) e where
    go : (b : Bool) → nat_eq (hash x) h ≡ b → (first_of (map hash xs) h ≡ None → find is xs ≡ None) → cond b (Some zero) (option_map (λ n. suc n) (first_of (map hash xs) h)) ≡ None → find is (x ∷ xs) ≡ None
    go true k rest e = absurd (let b : ⊥ = cc in b)
    go false k rest e = rw (other x k) (rest (first_none (first_of (map hash xs) h) e))

  -- if the element at the first position of the hash is a match, it is the first match in the list
  pub found_there : (xs : List A) (n : ℕ) (x : A) → first_of (map hash xs) h ≡ Some n → slice_get xs n ≡ Some x → is x ≡ true → find is xs ≡ Some x
  found_there [] n x e at k = absurd (let b : ⊥ = cc in b)
  found_there (y ∷ xs) n x e at k = go (nat_eq (hash y) h) refl (first_of (map hash xs) h) (λ m f a. found_there xs m x f a k) n e at where
    go : (b : Bool) → nat_eq (hash y) h ≡ b → (o : Option ℕ) → ((m : ℕ) → o ≡ Some m → slice_get xs m ≡ Some x → find is xs ≡ Some x) → (n : ℕ) → cond b (Some zero) (option_map (λ n. suc n) o) ≡ Some n → slice_get (y ∷ xs) n ≡ Some x → find is (y ∷ xs) ≡ Some x
    go true b o rest zero e at = let same : y ≡ x = cc in rw same (rw k refl)
    go true b o rest (suc n) e at = absurd (let f : ⊥ = cc in f)
    go false b None rest n e at = absurd (let f : ⊥ = cc in f)
    go false b (Some m) rest zero e at = absurd (let f : ⊥ = cc in f)
    go false b (Some m) rest (suc n) e at = let same : m ≡ n = cc in rw (other y b) (rest n (ap Some same) at)

pub any_found : {A : Type 0} (is : A → Bool) (xs : List A) → list_any is xs ≡ is_some (find is xs)
any_found is [] = refl
any_found is (x ∷ xs) = go (is x) (any_found is xs) where
  go : (b : Bool) → list_any is xs ≡ is_some (find is xs) → (b || list_any is xs) ≡ is_some (cond b (Some x) (find is xs))
  go true e = refl
  go false e = e

-- Pairs, and the index at which a test passes in a list.
use Rattle.std.proofs.Common.{◌≡◌, ℕ, zero, suc, ◌+◌, ◌*◌, ◌<◌, List, [], ◌∷◌, ◌++◌, length, map, refl, Bool, true, false, ◌||◌, ◌&&◌, arith}
use Rattle.std.specs.Prelude.{flat_map}
use Rattle.std.specs.List.{list_any}
use Rattle.std.proofs.lemmas.List.{length-map, length-append}

pub in_either : {P : Type 0} (a b : Bool) → (a ≡ true → P) → (b ≡ true → P) → (a || b) ≡ true → P
in_either true b f g e = f refl
in_either false b f g e = g e

pub index : {A : Type 0} → (A → Bool) → List A → ℕ
index t [] = zero
index t (x ∷ xs) = elim (t x) [ true ↦ zero | false ↦ suc (index t xs) ]

pub index_below : {A : Type 0} (t : A → Bool) (xs : List A) → list_any t xs ≡ true → index t xs < length xs
unfolding index
index_below t [] e = absurd (cc e)
index_below t (x ∷ xs) e = go (t x) e (index_below t xs)
  where
    go : (b : Bool) → (b || list_any t xs) ≡ true → (list_any t xs ≡ true → index t xs < length xs) → (let n : ℕ = elim b [ true ↦ zero | false ↦ suc (index t xs) ] in n < suc (length xs))
    go true h k = omega arith
    go false h k = let l = k h in omega arith

-- Two tests that pass first at the same index pass at the same element.
pub met_at : {A : Type 0} (t u : A → Bool) (xs : List A) → list_any t xs ≡ true → list_any u xs ≡ true → index u xs ≡ index t xs → (x : A) × (t x ≡ true) × (u x ≡ true)
unfolding index
met_at t u [] e f same = absurd (cc e)
met_at {A} t u (x ∷ xs) e f same = go (t x) (u x) refl refl e f same (met_at t u xs)
  where
    go : (b d : Bool) → t x ≡ b → u x ≡ d → (b || list_any t xs) ≡ true → (d || list_any u xs) ≡ true
        → ◌≡◌ {A = ℕ} (elim d [ true ↦ zero | false ↦ suc (index u xs) ]) (elim b [ true ↦ zero | false ↦ suc (index t xs) ])
        → (list_any t xs ≡ true → list_any u xs ≡ true → index u xs ≡ index t xs → (y : A) × (t y ≡ true) × (u y ≡ true)) → (y : A) × (t y ≡ true) × (u y ≡ true)
    go true true p q h k s rest = (x, p, q)
    go true false p q h k s rest = absurd (omega arith)
    go false true p q h k s rest = absurd (omega arith)
    go false false p q h k s rest = rest h k (omega arith)

pub product : {A B : Type 0} → List A → List B → List (A × B)
product as' bs = flat_map (λ a. map (λ b. (a, b)) bs) as'

pub length-product : {A B : Type 0} (as' : List A) (bs : List B) → length (product as' bs) ≡ length as' * length bs
unfolding product
length-product [] bs = omega arith
length-product {A} {B} (a ∷ as') bs = let h = length-product as' bs in
    let pairs : List (A × B) = map (λ b. (a, b)) bs in
    let l : length pairs ≡ length bs = length-map bs _ in
    let m : length (pairs ++ flat_map (λ a. map (λ b. (a, b)) bs) as') ≡ length pairs + length (flat_map (λ a. map {B = A × B} (λ b. (a, b)) bs) as') = length-append pairs _ in
    omega arith

pub both_left : (a b : Bool) → (a && b) ≡ true → a ≡ true
both_left true b e = refl
both_left false b e = e

pub both_right : (a b : Bool) → (a && b) ≡ true → b ≡ true
both_right true b e = e
both_right false true e = refl
both_right false false e = e

pub both_true : (a b : Bool) → a ≡ true → b ≡ true → (a && b) ≡ true
both_true true b e f = f
both_true false b e f = e

pub or_left : (a b : Bool) → a ≡ true → (a || b) ≡ true
or_left true b e = refl
or_left false b e = absurd (cc e)

pub or_right : (a b : Bool) → b ≡ true → (a || b) ≡ true
or_right true b e = refl
or_right false b e = e

pub any-append_left : {A : Type 0} (t : A → Bool) (xs ys : List A) → list_any t xs ≡ true → list_any t (xs ++ ys) ≡ true
any-append_left t [] ys e = absurd (cc e)
any-append_left t (x ∷ xs) ys e = in_either (t x) (list_any t xs) (or_left (t x) _) (λ h. or_right (t x) _ (any-append_left t xs ys h)) e

pub any-append_right : {A : Type 0} (t : A → Bool) (xs ys : List A) → list_any t ys ≡ true → list_any t (xs ++ ys) ≡ true
any-append_right t [] ys e = e
any-append_right t (x ∷ xs) ys e = or_right (t x) _ (any-append_right t xs ys e)

any_pair : {A B : Type 0} (t : A → Bool) (u : B → Bool) (a : A) (bs : List B) → t a ≡ true → list_any u bs ≡ true → list_any (λ (x : A × B). t x.0 && u x.1) (map (λ b. (a, b)) bs) ≡ true
any_pair t u a [] h e = absurd (cc e)
any_pair {A} {B} t u a (b ∷ bs) h e = in_either (u b) (list_any u bs) (λ k. or_left (t a && u b) (list_any (λ (x : A × B). t x.0 && u x.1) (map (λ b'. (a, b')) bs)) (rw (h, k))) (λ k. or_right _ _ (any_pair t u a bs h k)) e

pub any_product : {A B : Type 0} (t : A → Bool) (u : B → Bool) (as' : List A) (bs : List B) → list_any t as' ≡ true → list_any u bs ≡ true → list_any (λ (x : A × B). t x.0 && u x.1) (product as' bs) ≡ true
unfolding product
any_product t u [] bs e f = absurd (cc e)
any_product {A} {B} t u (a ∷ as') bs e f =
    let row : List (A × B) = map (λ b. (a, b)) bs in
    in_either (t a) (list_any t as') (λ h. any-append_left (λ (x : A × B). t x.0 && u x.1) row (flat_map (λ a'. map (λ b. (a', b)) bs) as') (any_pair t u a bs h f))
    (λ h. any-append_right (λ (x : A × B). t x.0 && u x.1) row (flat_map (λ a'. map (λ b. (a', b)) bs) as') (any_product t u as' bs h f)) e

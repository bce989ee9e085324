-- Paths of different lengths differ; the first steps of a list.
use Rattle.std.proofs.Common.{◌≡◌, ℕ, zero, suc, ◌≤◌, ◌-◌, ◌&&◌, Bool, true, false, List, [], ◌∷◌, length, map, take, drop, refl, sym, ◌∙◌, ap, true≢false, arith, length-drop}
use Rattle.theory_definitions.specs.Instance.{Place, same_place}

and_right : (a b : Bool) → (a && b) ≡ true → b ≡ true
and_right true b h = h
and_right false b h = absurd (true≢false (sym h))

same_length : (p q : Place) → same_place p q ≡ true → length p ≡ length q
same_length [] [] h = refl
same_length [] (t ∷ q) h = absurd (true≢false (sym h))
same_length (s ∷ p) [] h = absurd (true≢false (sym h))
same_length (s ∷ p) (t ∷ q) h = ap suc (same_length p q (and_right _ _ h))

pub longer_differs : (p q : Place) → (length p ≡ length q → ⊥) → same_place p q ≡ false
longer_differs p q h =
    let go : (b : Bool) → same_place p q ≡ b → b ≡ false = elim [ true ↦ λ e. absurd (h (same_length p q e)) | false ↦ λ e. refl ] in
    go (same_place p q) refl

pub map_take : {A B : Type 0} (f : A → B) (n : ℕ) (xs : List A) → map f (take n xs) ≡ take n (map f xs)
map_take f zero xs = refl
map_take f (suc n) [] = refl
map_take f (suc n) (x ∷ xs) = ap (λ ys. f x ∷ ys) (map_take f n xs)

pub map_drop : {A B : Type 0} (f : A → B) (n : ℕ) (xs : List A) → map f (drop n xs) ≡ drop n (map f xs)
map_drop f zero xs = refl
map_drop f (suc n) [] = refl
map_drop f (suc n) (x ∷ xs) = map_drop f n xs

pub map_take_all : {A B : Type 0} (f : A → B) (n : ℕ) (xs : List A) → length xs ≤ n → map f xs ≡ take n (map f xs)
map_take_all f zero [] h = refl
map_take_all f zero (x ∷ xs) h = absurd (omega arith)
map_take_all f (suc n) [] h = refl
map_take_all f (suc n) (x ∷ xs) h = ap (λ ys. f x ∷ ys) (map_take_all f n xs (omega arith))

pub map_drop_all : {A B : Type 0} (f : A → B) (n : ℕ) (xs : List A) → length xs ≤ n → [] ≡ drop n (map f xs)
map_drop_all f zero [] h = refl
map_drop_all f zero (x ∷ xs) h = absurd (omega arith)
map_drop_all f (suc n) [] h = refl
map_drop_all f (suc n) (x ∷ xs) h = map_drop_all f n xs (omega arith)

take_whole : {A : Type 0} (n : ℕ) (xs : List A) → length xs ≤ n → take n xs ≡ xs
take_whole zero [] h = refl
take_whole zero (x ∷ xs) h = absurd (omega arith)
take_whole (suc n) [] h = refl
take_whole (suc n) (x ∷ xs) h = ap (λ ys. x ∷ ys) (take_whole n xs (omega arith))

pub map_later : {A B : Type 0} (f : A → B) (n : ℕ) (xs : List A) → map f (take (length xs - n) (drop n xs)) ≡ drop n (map f xs)
map_later f n xs = ap (map f) (take_whole (length xs - n) (drop n xs) (omega (arith, length-drop n xs))) ∙ map_drop f n xs

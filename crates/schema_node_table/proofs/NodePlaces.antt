-- The node at a number, after a table gets one more node, or a node is replaced.
use Rattle.std.proofs.Common.{◌≡◌, ℕ, zero, suc, ◌<◌, ◌≤◌, ◌++◌, List, [], ◌∷◌, length, refl, sym, ◌∙◌, ap, arith}
use Rattle.std.specs.Prelude.{Some, slice_get, slice_set, ◌⊎◌}
use Rattle.std.proofs.Common.{inl, inr, ⊎_elim}

pub some_is : {A : Type 0} (x y : A) → Some x ≡ Some y → x ≡ y
some_is x y e = cc

-- an element of a list keeps its place when more are appended
pub stays : {A : Type 0} (xs ys : List A) (i : ℕ) (x : A) → slice_get xs i ≡ Some x → slice_get (xs ++ ys) i ≡ Some x
stays [] ys i x e = absurd (let f : ⊥ = cc in f)
stays (y ∷ xs) ys zero x e = e
stays (y ∷ xs) ys (suc i) x e = stays xs ys i x e

-- an element of a list with one appended was there before, or is the appended one
pub was_or_last : {A : Type 0} (xs : List A) (y : A) (i : ℕ) (x : A) → slice_get (xs ++ y ∷ []) i ≡ Some x → (slice_get xs i ≡ Some x) ⊎ (x ≡ y)
was_or_last [] y zero x e = inr (some_is _ _ (sym e))
was_or_last [] y (suc i) x e = absurd (let f : ⊥ = cc in f)
was_or_last (z ∷ xs) y zero x e = inl e
was_or_last (z ∷ xs) y (suc i) x e = was_or_last xs y i x e

pub length_more : {A : Type 0} (xs : List A) (y : A) → length (xs ++ y ∷ []) ≡ suc (length xs)
length_more [] y = refl
length_more (x ∷ xs) y = ap suc (length_more xs y)

-- the appended element is at the end
pub get_end : {A : Type 0} (xs : List A) (x : A) → slice_get (xs ++ x ∷ []) (length xs) ≡ Some x
get_end [] x = refl
get_end (y ∷ xs) x = get_end xs x

pub set_end : {A : Type 0} (xs : List A) (x y : A) → slice_set (xs ++ x ∷ []) (length xs) y ≡ xs ++ y ∷ []
set_end [] x y = refl
set_end (z ∷ xs) x y = ap (λ r. z ∷ r) (set_end xs x y)

pub set_here : {A : Type 0} (xs : List A) (i : ℕ) (x y : A) → slice_get xs i ≡ Some x → slice_get (slice_set xs i y) i ≡ Some y
set_here [] i x y e = absurd (let f : ⊥ = cc in f)
set_here (z ∷ xs) zero x y e = refl
set_here (z ∷ xs) (suc i) x y e = set_here xs i x y e

pub set_there : {A : Type 0} (xs : List A) (i j : ℕ) (y : A) → (j ≡ i → ⊥) → slice_get (slice_set xs i y) j ≡ slice_get xs j
set_there [] i j y h = refl
set_there (z ∷ xs) zero zero y h = absurd (h refl)
set_there (z ∷ xs) zero (suc j) y h = refl
set_there (z ∷ xs) (suc i) zero y h = refl
set_there (z ∷ xs) (suc i) (suc j) y h = set_there xs i j y (λ e. h (ap suc e))

pub set_length : {A : Type 0} (xs : List A) (i : ℕ) (y : A) → length (slice_set xs i y) ≡ length xs
set_length [] i y = refl
set_length (z ∷ xs) zero y = refl
set_length (z ∷ xs) (suc i) y = ap suc (set_length xs i y)

pub same_or_not : (a b : ℕ) → (a ≡ b) ⊎ (a ≡ b → ⊥)
same_or_not zero zero = inl refl
same_or_not zero (suc b) = inr (λ e. absurd (omega (arith, e)))
same_or_not (suc a) zero = inr (λ e. absurd (omega (arith, e)))
same_or_not (suc a) (suc b) = ⊎_elim (λ e. inl (ap suc e)) (λ h. inr (λ e. h (omega (arith, e)))) (same_or_not a b)

pub same_or_less : (a b : ℕ) → a ≤ b → (a ≡ b) ⊎ (a < b)
same_or_less zero zero h = inl refl
same_or_less zero (suc b) h = inr (omega arith)
same_or_less (suc a) zero h = absurd (omega (arith, h))
same_or_less (suc a) (suc b) h = ⊎_elim (λ e. inl (ap suc e)) (λ l. inr (omega (arith, l))) (same_or_less a b (omega (arith, h)))

-- after a set, an element is the new one or was there before
pub set_was : {A : Type 0} (xs : List A) (i : ℕ) (x y : A) (j : ℕ) (z : A) → slice_get xs i ≡ Some x → slice_get (slice_set xs i y) j ≡ Some z → (slice_get xs j ≡ Some z) ⊎ (z ≡ y)
set_was xs i x y j z at at' = ⊎_elim
    (λ e. inr (some_is _ _ (sym at' ∙ ap (slice_get (slice_set xs i y)) e ∙ set_here xs i x y at)))
    (λ ne. inl (sym (set_there xs i j y ne) ∙ at'))
    (same_or_not j i)

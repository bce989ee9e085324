-- Texts within texts.
use Rattle.std.proofs.Common.{ℕ, zero, suc, ◌≡◌, ◌∙◌, ◌<◌, ◌+◌, ◌==◌, ◌&&◌, ◌||◌, Bool, true, false, [], ◌∷◌, length, drop, ap, sym, refl, add-one, arith}
use Rattle.theory_definitions.specs.Instance.{Text}
use Rattle.bench_parts.specs.BenchMatching.{begins_with, contains_text}

and-false : (b c : Bool) → c ≡ false → (b && c) ≡ false
and-false true c h = h
and-false false c h = refl

-- a text does not begin with a longer one
pub begins_with-long : (p xs : Text) → length xs < length p → begins_with p xs ≡ false
begins_with-long [] xs h = absurd (omega arith)
begins_with-long (a ∷ p) [] h = refl
begins_with-long (a ∷ p) (x ∷ xs) h = and-false (a == x) _ (begins_with-long p xs (omega arith))

contains_later-suc : (p xs : Text) (i : ℕ) → i < length xs → begins_with p (drop i xs) ≡ false → contains_text p (drop i xs) ≡ contains_text p (drop (suc i) xs)
contains_later-suc p [] i h none = absurd (omega arith)
contains_later-suc p (x ∷ xs) zero h none = ap (λ b. b || contains_text p xs) none
contains_later-suc p (x ∷ xs) (suc i) h none = contains_later-suc p xs i (omega arith) none

-- if the text does not begin with the pattern, then it contains it only further on
pub contains_later : (p xs : Text) (i : ℕ) → i < length xs → begins_with p (drop i xs) ≡ false → contains_text p (drop i xs) ≡ contains_text p (drop (i + 1) xs)
contains_later p xs i h none = contains_later-suc p xs i h none ∙ ap (λ n. contains_text p (drop n xs)) (sym (add-one i))

-- a text contains what it begins with
pub contains_here : (p xs : Text) → begins_with p xs ≡ true → contains_text p xs ≡ true
contains_here p [] h = h
contains_here p (x ∷ xs) h = ap (λ b. b || contains_text p xs) h

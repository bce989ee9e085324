-- The text before the first `#`, and after it.
use Rattle.std.proofs.Common.{◌≡◌, ℕ, suc, ◌+◌, ◌==◌, Bool, true, false, cond, not, List, [], ◌∷◌, length, take, drop, refl, ◌∙◌, ap, arith}
use Rattle.std.specs.List.{before_first, after_first, position_or_len}
use Rattle.theory_definitions.specs.Plan.{fragment, without_fragment}

abbrev before : List ℕ → ℕ
before xs = position_or_len (λ b. b == 35) xs

one_more : (n : ℕ) → 1 + n ≡ suc n
one_more n = omega arith

pub before_mark : (xs : List ℕ) → before_first (λ b. b == 35) xs ≡ without_fragment xs
before_mark [] = refl
before_mark (x ∷ xs) =
    let go : (b : Bool) → take (cond (not b) (1 + before xs) 0) (x ∷ xs) ≡ cond b [] (x ∷ without_fragment xs)
    = elim [ true ↦ refl | false ↦ ap (λ n. take n (x ∷ xs)) (one_more (before xs)) ∙ ap (λ ys. x ∷ ys) (before_mark xs) ] in
    go (x == 35)

after_drop : (xs : List ℕ) → drop (suc (before xs)) xs ≡ fragment xs
after_drop [] = refl
after_drop (x ∷ xs) =
    let go : (b : Bool) → drop (suc (cond (not b) (1 + before xs) 0)) (x ∷ xs) ≡ cond b xs (fragment xs)
    = elim [ true ↦ refl | false ↦ ap (λ n. drop n xs) (one_more (before xs)) ∙ after_drop xs ] in
    go (x == 35)

pub after_mark : (xs : List ℕ) → after_first (λ b. b == 35) xs ≡ fragment xs
after_mark xs = ap (λ n. drop n xs) (let e : before xs + 1 ≡ suc (before xs) = omega arith in e) ∙ after_drop xs

-- a text without `#`
pub before_none : (xs : List ℕ) → before xs ≡ length xs → xs ≡ without_fragment xs
before_none [] h = refl
before_none (x ∷ xs) h =
    let go : (b : Bool) → cond (not b) (1 + before xs) 0 ≡ suc (length xs) → (x ∷ xs) ≡ cond b [] (x ∷ without_fragment xs)
    = elim [ true ↦ λ e. absurd (omega (arith, e)) | false ↦ λ e. ap (λ ys. x ∷ ys) (before_none xs (omega (arith, e))) ] in
    go (x == 35) h

pub after_none : (xs : List ℕ) → before xs ≡ length xs → [] ≡ fragment xs
after_none [] h = refl
after_none (x ∷ xs) h =
    let go : (b : Bool) → cond (not b) (1 + before xs) 0 ≡ suc (length xs) → [] ≡ cond b xs (fragment xs)
    = elim [ true ↦ λ e. absurd (omega (arith, e)) | false ↦ λ e. after_none xs (omega (arith, e)) ] in
    go (x == 35) h

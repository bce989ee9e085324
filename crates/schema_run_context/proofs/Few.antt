-- At most three rows for each number.
use Rattle.std.proofs.Common.{◌≡◌, ℕ, ◌+◌, ◌*◌, ◌≤◌, Bool, true, false, cond, not, List, [], ◌∷◌, ◌++◌, length, refl, sym, ◌∙◌, ap, arith, true≢false, length-append}
use Rattle.std.specs.Prelude.{◌||◌, nat_eq}
use Rattle.std.specs.Cmp.{nat_eq_equiv}
use Rattle.std.specs.List.{IsDistinct, filter}
use Rattle.std.proofs.lemmas.Bool.{eqb-true}
use Rattle.std.proofs.lemmas.Map.Made.{length-le_from_is_member}
use Rattle.schema_run_context.specs.Progress.{has_number}

number_append : (n : ℕ) (xs ys : List ℕ) → has_number n (xs ++ ys) ≡ (has_number n xs || has_number n ys)
number_append n [] ys = refl
number_append n (x ∷ xs) ys = go (nat_eq n x) (number_append n xs ys)
  where
    go : (b : Bool) → has_number n (xs ++ ys) ≡ (has_number n xs || has_number n ys) → (b || has_number n (xs ++ ys)) ≡ ((b || has_number n xs) || has_number n ys)
    go true h = refl
    go false h = h

-- a number that is left out is among the first
in_either : (xs : List ℕ) (n : ℕ) (ys : List ℕ) → has_number n ys ≡ true → (has_number n xs || has_number n (filter (λ m. not (has_number m xs)) ys)) ≡ true
in_either xs n [] h = absurd (true≢false (sym h))
in_either xs n (y ∷ ys) h = go (nat_eq n y) refl h (has_number y xs) refl (in_either xs n ys)
  where
    drop_or : (a b c : Bool) → (a || c) ≡ true → (a || (b || c)) ≡ true
    drop_or true b c e = refl
    drop_or false true c e = refl
    drop_or false false c e = e

    or_at : (a c : Bool) → (a || (true || c)) ≡ true
    or_at true c = refl
    or_at false c = refl

    go : (b : Bool) → nat_eq n y ≡ b → (b || has_number n ys) ≡ true → (t : Bool) → has_number y xs ≡ t
        → (has_number n ys ≡ true → (has_number n xs || has_number n (filter (λ m. not (has_number m xs)) ys)) ≡ true)
        → (has_number n xs || has_number n (cond (not t) (y ∷ filter (λ m. not (has_number m xs)) ys) (filter (λ m. not (has_number m xs)) ys))) ≡ true
    go true e h true f rest =
        let same : n ≡ y = eqb-true n y e in
        let has : has_number n xs ≡ true = ap (λ i. has_number i xs) same ∙ f in
        ap (λ b. b || has_number n (filter (λ m. not (has_number m xs)) ys)) has
    go true e h false f rest = ap (λ b. has_number n xs || (b || has_number n (filter (λ m. not (has_number m xs)) ys))) e ∙ or_at (has_number n xs) (has_number n (filter (λ m. not (has_number m xs)) ys))
    go false e h true f rest = rest h
    go false e h false f rest = drop_or (has_number n xs) (nat_eq n y) (has_number n (filter (λ m. not (has_number m xs)) ys)) (rest h)

-- one row for each of some numbers, and two for each of others, of which none stands twice
pub few_lists : (xs ys : List ℕ) → IsDistinct nat_eq ys → length xs + 2 * length ys ≤ 3 * length (xs ++ filter (λ n. not (has_number n xs)) ys)
few_lists xs ys d =
    let kept = length-le_from_is_member nat_eq_equiv ys (xs ++ filter (λ n. not (has_number n xs)) ys) d (λ q h. number_append q xs (filter (λ n. not (has_number n xs)) ys) ∙ in_either xs q ys h) in
    let all = length-append xs (filter (λ n. not (has_number n xs)) ys) in
    omega (arith, kept, all)

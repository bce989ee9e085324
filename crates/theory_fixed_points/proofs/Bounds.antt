-- The pairs of some numbers and places: how many there are, at a place and in all.
use Rattle.std.proofs.Common.{◌≡◌, ℕ, ◌+◌, ◌*◌, ◌≤◌, ◌++◌, ◌||◌, ◌==◌, Bool, true, List, [], ◌∷◌, length, map, refl, sym, ap, arith, true≢false, length-append}
use Rattle.std.specs.List.{list_any}
use Rattle.std.proofs.lemmas.Bool.{or_left, or_right}
use Rattle.std.proofs.lemmas.List.{length-map}
use Rattle.theory_definitions.specs.Instance.{Place, same_place}
use Rattle.theory_definitions.proofs.Products.{both_true, in_either}
use Rattle.theory_fixed_points.specs.Found.{Found, is_this}
use Rattle.theory_fixed_points.specs.Work.{AtMostAt, EachOnce, IsAmong, IsBoundedBy, IsCounted, Pairs, how_often, one_if, pairs_of, sum_over}
use Rattle.theory_fixed_points.proofs.Work.{bounded}

sum_append : (a : ℕ → Place → ℕ) (xs ys : Pairs) → sum_over a (xs ++ ys) ≡ sum_over a xs + sum_over a ys
sum_append a [] ys = omega arith
sum_append a (x ∷ xs) ys = omega (arith, sum_append a xs ys)

row_sum : (n : ℕ) (p : Place) (ps : List Place) → sum_over (λ j q. one_if (same_place p q)) (map (λ q. (n, q)) ps) ≡ how_often p ps
row_sum n p [] = refl
row_sum n p (q ∷ qs) = omega (arith, row_sum n p qs)

pub pairs_few : (ns : List ℕ) (ps : List Place) → EachOnce ps → AtMostAt (pairs_of ns ps) (length ns)
pairs_few [] ps once p = omega arith
pairs_few (n ∷ ns) ps once p = omega (arith, once p, row_sum n p ps, pairs_few ns ps once p, sum_append (λ j q. one_if (same_place p q)) (map (λ q. (n, q)) ps) (pairs_of ns ps))

pub pairs_count : (ns : List ℕ) (ps : List Place) → length (pairs_of ns ps) ≡ length ns * length ps
pairs_count [] ps = omega arith
pairs_count (n ∷ ns) ps =
    let rows : length (map {B = ℕ × Place} (λ q. (n, q)) ps) ≡ length ps = length-map ps _ in
    omega (arith, rows, pairs_count ns ps, length-append (map {B = ℕ × Place} (λ q. (n, q)) ps) (pairs_of ns ps))

any_append : (t : ℕ × Place → Bool) (xs ys : Pairs) → (list_any t xs || list_any t ys) ≡ true → list_any t (xs ++ ys) ≡ true
any_append t [] ys is = is
any_append t (x ∷ xs) ys is = in_either (t x || list_any t xs) (list_any t ys)
    (λ left. in_either (t x) (list_any t xs) (λ here. or_left _ _ here) (λ there. or_right (t x) _ (any_append t xs ys (or_left _ _ there))) left)
    (λ right. or_right (t x) _ (any_append t xs ys (or_right (list_any t xs) _ right))) is

row_among : (n i : ℕ) (p : Place) (ps : List Place) → (i == n) ≡ true → list_any (same_place p) ps ≡ true → list_any (λ (e : ℕ × Place). is_this i p e.0 e.1) (map (λ q. (n, q)) ps) ≡ true
row_among n i p [] same is = absurd (true≢false (sym is))
row_among n i p (q ∷ qs) same is = in_either (same_place p q) (list_any (same_place p) qs)
    (λ here. or_left _ _ (both_true _ _ same here))
    (λ later. or_right (is_this i p n q) _ (row_among n i p qs same later)) is

pub pairs_among : (ns : List ℕ) (ps : List Place) (i : ℕ) (p : Place) → list_any (λ n. i == n) ns ≡ true → list_any (same_place p) ps ≡ true → IsAmong (pairs_of ns ps) i p
pairs_among [] ps i p known there = absurd (true≢false (sym known))
pairs_among (n ∷ ns) ps i p known there = any_append (λ (e : ℕ × Place). is_this i p e.0 e.1) (map (λ q. (n, q)) ps) (pairs_of ns ps) (in_either (i == n) (list_any (λ m. i == m) ns)
    (λ same. or_left _ _ (row_among n i p ps same there))
    (λ later. or_right (list_any (λ (e : ℕ × Place). is_this i p e.0 e.1) (map (λ q. (n, q)) ps)) _ (pairs_among ns ps i p later there)) known)

-- For g numbers and p places at most g * p * g.
pub bounded_by : (ns : List ℕ) (ps : List Place) (f : Found) (begun : ℕ) → IsCounted (pairs_of ns ps) (length ns) f begun → IsBoundedBy ns ps begun
bounded_by [] ps f begun counted = omega (arith, counted)
bounded_by (n ∷ ns) ps f begun counted =
    let all : Pairs = pairs_of (n ∷ ns) ps in
    let most : begun ≤ length all * length (n ∷ ns) = bounded all (length (n ∷ ns)) f begun (omega arith) counted in
    let same : length all * length (n ∷ ns) ≡ length (n ∷ ns) * length ps * length (n ∷ ns) = ap (λ k. k * length (n ∷ ns)) (pairs_count (n ∷ ns) ps) in
    omega (arith, most, same)

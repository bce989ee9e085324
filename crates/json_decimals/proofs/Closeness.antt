-- A decimal that reads as a normal float lies within 2 ^ -53 of it, as a part of the float.
use Rattle.std.proofs.Common.{◌≡◌, ℕ, zero, suc, ℤ, false, not, ◌+◌, ◌*◌, ◌/◌, ◌%◌, ◌^◌, ◌<◌, ◌≤◌, T, sym, ap, subst, arith, mul-pos, mul-le-mul_right, le_of_mul-le-mul_right, mod-lt, div-add-mod', pow_pos}
use Rattle.std.proofs.Math.Nat.{eq_of_mul-eq-mul_right, le_trans, le_of_eq, le-div_iff_mul-le, div-div-eq-div-mul}
use Rattle.std.proofs.lemmas.Nat.{pow-add}
use Prim.Native.Nat.{compare, Ordering}
use lib.Arith.{lt_of_le-ne}
use lib.Dec.{is_le, compare_is_eq, eqb, leb→le, nleb→lt, eqb→eq, eqb_refl}
use lib.Ieee.{Float, nan, inf, fin, binary64, round, eq, up, down, low, nearest, size}
use lib.Ieee.Fits.{and_l, down_pos}
use lib.Ieee.Nearest.{closest, nearest-ge}
use lib.Ieee.Digits.{size_reaches}
use lib.Ieee.Order.{drop, kept}
use lib.Ieee.Positive.{num, den, den_pos, value→cross}
use lib.Ieee.Scale.{finite, grid, round_under, round_val}

-- ---- what `compare` says
abbrev Compared : Ordering → ℕ → ℕ → Type 0
Compared Ordering.lt a b = a < b
Compared Ordering.eq a b = a ≡ b
Compared Ordering.gt a b = b < a

compared : (a b : ℕ) → Compared (compare a b) a b
compared a b = by (compare a b) (leb→le a b) (nleb→lt a b) (eqb→eq a b) (λ e. subst (λ x. T (eqb a x)) e (eqb_refl a))
  where
    by : (o : Ordering) → (T (is_le o) → a ≤ b) → (T (not (is_le o)) → b < a) → (T (compare_is_eq o) → a ≡ b) → (a ≡ b → T (compare_is_eq o)) → Compared o a b
    by Ordering.lt h k e n = lt_of_le-ne (h tt) n
    by Ordering.eq h k e n = e tt
    by Ordering.gt h k e n = k tt

off_by_half : (q r u : ℕ) (o : Ordering) → r < u → Compared o (r * 2) u
    → (2 * (nearest q o * u) ≤ 2 * (q * u + r) + u) × (2 * (q * u + r) ≤ 2 * (nearest q o * u) + u)
off_by_half q r u Ordering.lt rest less = (omega arith, omega arith)
off_by_half q r u Ordering.gt rest more = (omega arith, omega arith)
off_by_half q r u Ordering.eq rest tie = by (q % 2) (omega arith)
  where
    by : (s : ℕ) → s < 2 → (2 * ((q + s) * u) ≤ 2 * (q * u + r) + u) × (2 * (q * u + r) ≤ 2 * ((q + s) * u) + u)
    by zero small = (omega arith, omega arith)
    by (suc zero) small = (omega arith, omega arith)
    by (suc (suc s)) small = absurd (omega arith)

-- the closest whole number is at most half off
closest_off : (n u : ℕ) → 0 < u → (2 * (closest n u * u) ≤ 2 * n + u) × (2 * n ≤ 2 * (closest n u * u) + u)
closest_off n u some =
    let off = off_by_half (n / u) (n % u) u (compare (n % u * 2) u) (mod-lt n some) (compared (n % u * 2) u) in
    subst (λ z. (2 * (closest n u * u) ≤ 2 * z + u) × (2 * z ≤ 2 * (closest n u * u) + u)) (div-add-mod' n u) off

-- what compares equal to a finite float is finite, and of one value
pub same_value : (y : Float) (m : ℕ) (e : ℤ) → T (eq y (fin false m e)) → T (finite y) × (num y * down e ≡ m * up e * den y)
unfolding eq
same_value nan m e h = absurd h
same_value (inf s) m e h = absurd h
same_value (fin s n d) m e h = (tt, eqb→eq _ _ (and_l _ _ h))

-- where digits are dropped, the kept number has all digits
kept_many : (n b : ℕ) → 0 < drop 53 n b → 2 ^ 52 ≤ kept 53 n b
kept_many n b some =
    let k = drop 53 n b in
    let u = b * 2 ^ k in
    let w = n / b in
    let inside : 52 + k < size w = omega arith in
    let large : 2 ^ 52 * 2 ^ k ≤ w = le_trans (le_of_eq (sym (pow-add 2 52 k))) (size_reaches w (52 + k) inside) in
    le_trans (subst (λ x. 2 ^ 52 ≤ x) (div-div-eq-div-mul n b (2 ^ k)) ((le-div_iff_mul-le (pow_pos k)).1 large)) (nearest-ge (n / u) (compare (n % u * 2) u))

crossed : (N D V X Y L : ℕ) → 0 < D → N * L ≡ V * D → N * Y ≡ X * D → X * L ≡ V * Y
crossed N D V X Y L some p q = eq_of_mul-eq-mul_right D some (X * L) (V * Y) (omega (arith, ap (λ z. z * Y) p, ap (λ z. z * L) q))

-- K * t units of 1 / L are X / Y, and a / b is at most half of t units off
near : (a b X Y L K t : ℕ) → 0 < L → 2 ^ 52 ≤ K → X * L ≡ K * t * Y → 2 * (K * (b * t)) ≤ 2 * (a * L) + b * t → 2 * (a * L) ≤ 2 * (K * (b * t)) + b * t
    → (2 ^ 53 * (X * b) ≤ 2 ^ 53 * (a * Y) + X * b) × (2 ^ 53 * (a * Y) ≤ 2 ^ 53 * (X * b) + X * b)
near a b X Y L K t some many same lower upper =
    let unit : 2 ^ 52 * (b * t) ≤ K * (b * t) = mul-le-mul_right (b * t) many in
    let lower_all : 2 ^ 53 * (K * (b * t)) ≤ 2 ^ 53 * (a * L) + K * (b * t) = omega arith in
    let upper_all : 2 ^ 53 * (a * L) ≤ 2 ^ 53 * (K * (b * t)) + K * (b * t) = omega arith in
    let moved : X * b * L ≡ K * (b * t) * Y = omega (arith, ap (λ z. z * b) same) in (
      le_of_mul-le-mul_right {k = L} (omega (arith, moved, mul-le-mul_right Y lower_all)) some,
      le_of_mul-le-mul_right {k = L} (omega (arith, moved, mul-le-mul_right Y upper_all)) some,
    )

enough : (K d V X Y L : ℕ) → 0 < Y → 2 ^ 52 * Y ≤ X * L → X * L ≡ K * 2 ^ d * Y → (0 < d → 2 ^ 52 ≤ K) → 2 ^ 52 ≤ K
enough K zero V X Y L some normal same kept = le_of_mul-le-mul_right {k = Y} (omega arith) some
enough K (suc d) V X Y L some normal same kept = kept (omega arith)

-- X / Y is the float
pub near_of_reads : (a b m : ℕ) (e : ℤ) → 0 < b → T (eq (round binary64 false a b) (fin false m e)) → 2 ^ 52 * down e ≤ m * up e * 2 ^ 1074
    → (2 ^ 53 * (m * up e * b) ≤ 2 ^ 53 * (a * down e) + m * up e * b) × (2 ^ 53 * (a * down e) ≤ 2 ^ 53 * (m * up e * b) + m * up e * b)
near_of_reads a b m e some reads normal =
    let f = binary64 in
    let r = round f false a b in
    let same = same_value r m e reads in
    let cross = value→cross r (grid f a b) (2 ^ low f) (round_val f a b (round_under f a b same.0)) in
    let value : m * up e * 2 ^ 1074 ≡ grid f a b * down e = crossed (num r) (den r) (grid f a b) (m * up e) (down e) (2 ^ 1074) (den_pos r) cross same.1 in
    let n = a * 2 ^ 1074 in
    let t = 2 ^ drop 53 n b in
    let off = closest_off n (b * t) (mul-pos some (pow_pos (drop 53 n b))) in
    let many = enough (kept 53 n b) (drop 53 n b) 0 (m * up e) (down e) (2 ^ 1074) (down_pos e) normal value (kept_many n b) in
    near a b (m * up e) (down e) (2 ^ 1074) (kept 53 n b) t (pow_pos 1074) many value off.0 off.1

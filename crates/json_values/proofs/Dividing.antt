-- Division by odd digits and powers of two.
use Rattle.std.proofs.Common.{ℤ, negsuc, ◌≡◌, ◌≢◌, ℕ, zero, suc, ◌-◌, ◌*◌, ◌/◌, ◌%◌, ◌^◌, ◌<◌, ◌≤◌, ◌==◌, pos, Bool, true, false, leb, refl, sym, ap, subst, ◌∙◌, arith, inl, inr, mul-pos}
use Prim.Native.Nat.{◌∣◌}
use Rattle.std.specs.Bool.{Decides}
use Rattle.std.specs.Float.{Float, fin}
use Rattle.std.proofs.Math.Nat.{pow-suc, dvd_trans, dvd-zero, dvd-mul_left, dvd_of_mul-dvd-mul_right, mul-dvd-mul_right, mul-dvd-mul, dvd_of_mod-eq-zero, mod-eq-zero_of_dvd, eq-zero_of_zero-dvd, div-mul_cancel, mul_assoc, mul_comm, mul_right_comm, mod-one}
use Rattle.std.proofs.lemmas.Bool.{cases_lt}
use Rattle.std.proofs.lemmas.Bool.Decides.{Decides-eqb, Decides-like, nat_tests, same_from_decides}
use Rattle.std.proofs.lemmas.Nat.{mul-mod, pow-add, pow_pos}
use lib.Ieee.Positive.{den, den_pos, num}
use Rattle.json_values.specs.Numbers.{value_of_integer}
use Rattle.json_values.specs.Sizes.{one, units, IsReduced, IsSizeOf}
use Rattle.json_values.specs.declared.wholes.Size.{Size}

-- ---- divisibility, by the test of the remainder

divides : (a b : ℕ) → Decides (a % b == 0) (b ∣ a)
divides a b = Decides-like _ (dvd_of_mod-eq-zero b) (mod-eq-zero_of_dvd b) (Decides-eqb (a % b) 0)

-- a factor of both changes nothing
scaled : (a b c : ℕ) → 0 < c → ((a * c) % (b * c) == 0) ≡ (a % b == 0)
scaled a b c p =
    same_from_decides _ _ (Decides-like _ (λ h. dvd_of_mul-dvd-mul_right b p h) (λ h. mul-dvd-mul_right b h c) (divides (a * c) (b * c))) (divides a b)

-- an odd number divides twice c only if it divides c
odd_halves : (b c : ℕ) → b % 2 ≡ 1 → b ∣ c * 2 → b ∣ c
odd_halves b c odd h =
    let q = c * 2 / b in
    let whole : q * b ≡ c * 2 = div-mul_cancel b h in
    let product = mul-mod q b 2 in
    let even : q % 2 ≡ 0 = grind (arith, product, whole, odd) in
    let parts : q / 2 * 2 ≡ q = omega arith in
    let doubled : q / 2 * 2 * b ≡ c * 2 = ap (λ x. x * b) parts ∙ whole in
    let half : q / 2 * b ≡ c = omega arith in
    subst (λ x. b ∣ x) half (dvd-mul_left b (q / 2))

odd_powers : (k b a : ℕ) → b % 2 ≡ 1 → b ∣ a * 2 ^ k → b ∣ a
odd_powers zero b a odd h = subst (λ x. b ∣ x) (omega arith) h
odd_powers (suc k) b a odd h =
    odd_powers k b a odd (odd_halves b (a * 2 ^ k) odd (subst (λ x. b ∣ x) (ap (λ p. a * p) (pow-suc 2 k) ∙ sym (mul_assoc a (2 ^ k) 2)) h))

-- 2 ^ i as a multiple of 2 ^ j
split : (i j : ℕ) → j ≤ i → 2 ^ i ≡ 2 ^ (i - j) * 2 ^ j
split i j up = ap (λ k. 2 ^ k) (omega arith) ∙ pow-add 2 (i - j) j

even_divisor : (a b t : ℕ) → b * 2 ^ suc t ∣ a → a % 2 ≡ 0
even_divisor a b t h =
    mod-eq-zero_of_dvd 2 (dvd_trans 2 (subst (λ x. 2 ∣ x) (mul_assoc b (2 ^ t) 2 ∙ ap (λ p. b * p) (sym (pow-suc 2 t))) (dvd-mul_left 2 (b * 2 ^ t))) h)

-- odd digits a and b: b times 2 ^ j divides a times 2 ^ i exactly where b divides a, and the power
-- is no larger
down_to_digits : (a i b j : ℕ) → a % 2 ≡ 1 → IsReduced b → b * 2 ^ j ∣ a * 2 ^ i → (j ≤ i) × (b ∣ a)
down_to_digits a i b j odd reduced h =
    elim (cases_lt i j) [
      | inl less ↦
          let up : 2 ^ j ≡ 2 ^ suc (j - i - 1) * 2 ^ i = split j i (omega arith) ∙ ap (λ k. 2 ^ k * 2 ^ i) (omega arith) in
          let inside : b * 2 ^ suc (j - i - 1) * 2 ^ i ∣ a * 2 ^ i = subst (λ x. x ∣ a * 2 ^ i) (ap (λ p. b * p) up ∙ sym (mul_assoc b _ _)) h in
          let even = even_divisor a b (j - i - 1) (dvd_of_mul-dvd-mul_right _ (pow_pos i) inside) in
          absurd (omega arith)
      | inr up ↦
          let inside : b * 2 ^ j ∣ a * 2 ^ (i - j) * 2 ^ j = subst (λ x. b * 2 ^ j ∣ x) (ap (λ p. a * p) (split i j up) ∙ sym (mul_assoc a _ _)) h in
          let digits : b ∣ a * 2 ^ (i - j) = dvd_of_mul-dvd-mul_right b (pow_pos j) inside in (
            up,
            elim reduced [
              | inl none ↦
                  let nothing = eq-zero_of_zero-dvd (subst (λ x. x ∣ a * 2 ^ (i - j)) none digits) in
                  let some : 0 < a * 2 ^ (i - j) = mul-pos (omega arith) (pow_pos (i - j)) in
                  absurd (omega arith)
              | inr odd_too ↦ odd_powers (i - j) b a odd_too digits
            ],
          )
    ]

up_from_digits : (a i b j : ℕ) → j ≤ i → b ∣ a → b * 2 ^ j ∣ a * 2 ^ i
up_from_digits a i b j up h = mul-dvd-mul b (2 ^ j) h (subst (λ x. 2 ^ j ∣ x) (sym (split i j up)) (dvd-mul_left (2 ^ j) (2 ^ (i - j))))

-- ---- sizes

one_pos : 0 < one
unfolding one
one_pos = pow_pos 1074

-- the test of one number as a multiple of another, by their sizes in units
in_units : (x y : Float) (s t : Size) → IsSizeOf x s → IsSizeOf y t → ((num x * den y) % (num y * den x) == 0) ≡ (units s % units t == 0)
in_units x y s t h k =
    let over : num x * den y * one ≡ units s * (den x * den y) = mul_right_comm (num x) (den y) one ∙ ap (λ n. n * den y) h.0 ∙ mul_assoc (units s) (den x) (den y) in
    let under : num y * den x * one ≡ units t * (den x * den y) =
    mul_right_comm (num y) (den x) one ∙ ap (λ n. n * den x) k.0 ∙ mul_assoc (units t) (den y) (den x) ∙ ap (λ n. units t * n) (mul_comm (den y) (den x)) in
    sym (scaled (num x * den y) (num y * den x) one one_pos)
    ∙ ap (λ n. n % (num y * den x * one) == 0) over
    ∙ ap (λ n. (units s * (den x * den y)) % n == 0) under
    ∙ scaled (units s) (units t) (den x * den y) (mul-pos (den_pos x) (den_pos y))

abbrev multiple : Float → Float → Bool
multiple x y = (num x * den y) % (num y * den x) == 0

pub nothing_left : (x y : Float) (s t : Size) → IsSizeOf x s → IsSizeOf y t → s.digits ≡ 0 → true ≡ multiple x y
nothing_left x y s t h k none =
    let zero_units : units s ≡ 0 = ap (λ n. n * 2 ^ s.power) none ∙ omega arith in
    sym (in_units x y s t h k ∙ (divides (units s) (units t)).1 (subst (λ n. units t ∣ n) (sym zero_units) (dvd-zero (units t))))

odd_where_some : (n : ℕ) → IsReduced n → n ≢ 0 → n % 2 ≡ 1
odd_where_some n r some = elim r [ inl none ↦ absurd (some none) | inr odd ↦ odd ]

pub by_digits : (x y : Float) (s t : Size) → IsSizeOf x s → IsSizeOf y t → s.digits ≢ 0 → t.power ≤ s.power → (s.digits % t.digits == 0) ≡ multiple x y
by_digits x y s t h k some up =
    same_from_decides _ _ (divides s.digits t.digits) (Decides-like _
    (λ d. (down_to_digits s.digits s.power t.digits t.power (odd_where_some s.digits h.1 some) k.1 d).1)
    (λ d. up_from_digits s.digits s.power t.digits t.power up d)
    (divides (units s) (units t)))
    ∙ sym (in_units x y s t h k)

test_fails : (b : Bool) → (b ≡ true → ⊥) → false ≡ b
test_fails true never = absurd (never refl)
test_fails false never = refl

pub larger_power : (x y : Float) (s t : Size) → IsSizeOf x s → IsSizeOf y t → s.digits ≢ 0 → s.power < t.power → false ≡ multiple x y
larger_power x y s t h k some less =
    test_fails _ (λ passed.
    let d = (divides (units s) (units t)).0 (sym (in_units x y s t h k) ∙ passed) in
    let both = down_to_digits s.digits s.power t.digits t.power (odd_where_some s.digits h.1 some) k.1 d in
    omega (arith, both.0))

-- ---- integers

abbrev float_one : Float
float_one = fin false 1 (pos 0)

abbrev size_one : Size
size_one = record { digits = 1; power = 1074 }

one_size : IsSizeOf float_one size_one
unfolding one
one_size = (refl, inr refl)

whole_is : (x : Float) → multiple x float_one ≡ (num x % den x == 0)
whole_is x =
    let over : num x * 1 ≡ num x = omega arith in
    let under : 1 * 1 * den x ≡ den x = omega arith in
    ap (λ n. n % (1 * 1 * den x) == 0) over ∙ ap (λ n. num x % n == 0) under

pub whole_nothing : (x : Float) (s : Size) → IsSizeOf x s → s.digits ≡ 0 → true ≡ (num x % den x == 0)
whole_nothing x s h none = nothing_left x float_one s size_one h one_size none ∙ whole_is x

pub whole_by_power : (x : Float) (s : Size) → IsSizeOf x s → s.digits ≢ 0 → leb 1074 s.power ≡ (num x % den x == 0)
whole_by_power x s h some =
    elim (cases_lt s.power 1074) [
      | inl less ↦ (let under : leb 1074 s.power ≡ false = grind (arith, nat_tests) in under) ∙ larger_power x float_one s size_one h one_size some less ∙ whole_is x
      | inr up ↦
          (let over : leb 1074 s.power ≡ (s.digits % 1 == 0) = rw (mod-one s.digits) (grind (arith, nat_tests)) in over)
          ∙ by_digits x float_one s size_one h one_size some up ∙ whole_is x
    ]

pub integer_is_whole : (z : ℤ) → true ≡ (num (value_of_integer z) % den (value_of_integer z) == 0)
integer_is_whole (pos n) = ap (λ r. r == 0) (sym (mod-one (n * 2 ^ 0)))
integer_is_whole (negsuc n) = ap (λ r. r == 0) (sym (mod-one (suc n * 2 ^ 0)))

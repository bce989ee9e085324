-- Division by digits without the factors 2 and 5, and by powers of two and five.
use Rattle.std.proofs.Common.{◌≡◌, ◌≢◌, ℕ, zero, suc, ◌+◌, ◌-◌, ◌*◌, ◌/◌, ◌%◌, ◌^◌, ◌<◌, ◌≤◌, ◌==◌, Bool, true, false, refl, sym, ap, subst, ◌∙◌, arith, inl, inr, mul-pos}
use Prim.Native.Nat.{◌∣◌}
use Rattle.std.specs.Bool.{Decides}
use Rattle.std.proofs.Math.Nat.{pow-zero, pow-suc, mul-one, dvd_trans, dvd-zero, dvd-mul_left, dvd_of_mul-dvd-mul_right, mul-dvd-mul_right, mul-dvd-mul, dvd_of_mod-eq-zero, mod-eq-zero_of_dvd, eq-zero_of_zero-dvd, div-mul_cancel, mul_assoc, mul_comm, mul_right_comm}
use Rattle.std.proofs.lemmas.Bool.{cases_lt}
use Rattle.std.proofs.lemmas.Bool.Decides.{Decides-eqb, Decides-like, same_from_decides}
use Rattle.std.proofs.lemmas.Nat.{mul-mod, pow-add}
use Rattle.json_decimals.specs.Amounts.{one, units, IsAmountOf, IsReduced}
use Rattle.json_decimals.specs.Decimals.{Fraction}
use Rattle.json_decimals.specs.Multiples.{divides}
use Rattle.json_decimals.specs.declared.amounts.Amount.{Amount}

-- ---- divisibility, by the test of the remainder

decided : (a b : ℕ) → Decides (a % b == 0) (b ∣ a)
decided a b = Decides-like _ (dvd_of_mod-eq-zero b) (mod-eq-zero_of_dvd b) (Decides-eqb (a % b) 0)

-- a factor of both changes nothing
pub scaled : (a b c : ℕ) → 0 < c → ((a * c) % (b * c) == 0) ≡ (a % b == 0)
scaled a b c p =
    same_from_decides _ _ (Decides-like _ (λ h. dvd_of_mul-dvd-mul_right b p h) (λ h. mul-dvd-mul_right b h c) (decided (a * c) (b * c))) (decided a b)

-- ---- powers of one prime p

-- p shares no factor with b
abbrev IsFree : ℕ → ℕ → Type 0
IsFree p b = (c : ℕ) → b ∣ c * p → b ∣ c

free_of_two : (b : ℕ) → b % 2 ≡ 1 → IsFree 2 b
free_of_two b odd c h =
    let q = c * 2 / b in
    let whole : q * b ≡ c * 2 = div-mul_cancel b h in
    let product = mul-mod q b 2 in
    let even : q % 2 ≡ 0 = grind (arith, product, whole, odd) in
    let parts : q / 2 * 2 ≡ q = omega arith in
    let doubled : q / 2 * 2 * b ≡ c * 2 = ap (λ x. x * b) parts ∙ whole in
    let half : q / 2 * b ≡ c = omega arith in
    subst (λ x. b ∣ x) half (dvd-mul_left b (q / 2))

-- r is the remainder of b by 5, and s the quotient
fifth : (q s r c : ℕ) → r < 5 → r ≢ 0 → 5 * (q * s) + q * r ≡ c * 5 → q % 5 ≡ 0
fifth q s zero c small some h = absurd (some refl)
fifth q s (suc zero) c small some h = omega arith
fifth q s (suc (suc zero)) c small some h = omega arith
fifth q s (suc (suc (suc zero))) c small some h = omega arith
fifth q s (suc (suc (suc (suc zero)))) c small some h = omega arith
fifth q s (suc (suc (suc (suc (suc r))))) c small some h = absurd (omega arith)

free_of_five : (b : ℕ) → b % 5 ≢ 0 → IsFree 5 b
free_of_five b some c h =
    let q = c * 5 / b in
    let whole : q * b ≡ c * 5 = div-mul_cancel b h in
    let split : 5 * (b / 5) + b % 5 ≡ b = omega arith in
    let product : 5 * (q * (b / 5)) + q * (b % 5) ≡ c * 5 = omega (arith, whole, ap (λ x. q * x) split) in
    let none : q % 5 ≡ 0 = fifth q (b / 5) (b % 5) c (omega arith) some product in
    let parts : q / 5 * 5 ≡ q = omega arith in
    let all : q / 5 * 5 * b ≡ c * 5 = ap (λ x. x * b) parts ∙ whole in
    let part : q / 5 * b ≡ c = omega arith in
    subst (λ x. b ∣ x) part (dvd-mul_left b (q / 5))

power_pos : (p k : ℕ) → 0 < p → 0 < p ^ k
power_pos p zero some = omega (arith, pow-zero p)
power_pos p (suc k) some = subst (λ x. 0 < x) (sym (pow-suc p k)) (mul-pos (power_pos p k some) some)

without_power : (p k b a : ℕ) → IsFree p b → b ∣ a * p ^ k → b ∣ a
without_power p zero b a free h = subst (λ x. b ∣ x) (ap (λ n. a * n) (pow-zero p) ∙ mul-one a) h
without_power p (suc k) b a free h =
    without_power p k b a free (free (a * p ^ k) (subst (λ x. b ∣ x) (ap (λ n. a * n) (pow-suc p k) ∙ sym (mul_assoc a (p ^ k) p)) h))

-- p ^ i as a multiple of p ^ j
split_power : (p i j : ℕ) → j ≤ i → p ^ i ≡ p ^ (i - j) * p ^ j
split_power p i j up = (let same : i ≡ i - j + j = omega arith in ap (λ k. p ^ k) same) ∙ pow-add p (i - j) j

has_factor : (p a b t : ℕ) → b * p ^ suc t ∣ a → a % p ≡ 0
has_factor p a b t h =
    mod-eq-zero_of_dvd p (dvd_trans p (subst (λ x. p ∣ x) (mul_assoc b (p ^ t) p ∙ ap (λ n. b * n) (sym (pow-suc p t))) (dvd-mul_left p (b * p ^ t))) h)

-- b times p ^ j divides a times p ^ i only where b divides a, and the power is no larger
down : (p a i b j : ℕ) → 0 < p → a % p ≢ 0 → IsFree p b → b * p ^ j ∣ a * p ^ i → (j ≤ i) × (b ∣ a)
down p a i b j some whole free h =
    elim (cases_lt i j) [
      | inl less ↦
          let count : j - i ≡ suc (j - i - 1) = omega arith in
          let up : p ^ j ≡ p ^ suc (j - i - 1) * p ^ i = split_power p j i (omega arith) ∙ ap (λ k. p ^ k * p ^ i) count in
          let inside : b * p ^ suc (j - i - 1) * p ^ i ∣ a * p ^ i = subst (λ x. x ∣ a * p ^ i) (ap (λ n. b * n) up ∙ sym (mul_assoc b _ _)) h in
          absurd (whole (has_factor p a b (j - i - 1) (dvd_of_mul-dvd-mul_right _ (power_pos p i some) inside)))
      | inr up ↦
          let inside : b * p ^ j ∣ a * p ^ (i - j) * p ^ j = subst (λ x. b * p ^ j ∣ x) (ap (λ n. a * n) (split_power p i j up) ∙ sym (mul_assoc a _ _)) h in
          (up, without_power p (i - j) b a free (dvd_of_mul-dvd-mul_right b (power_pos p j some) inside))
    ]

up : (p a i b j : ℕ) → j ≤ i → b ∣ a → b * p ^ j ∣ a * p ^ i
up p a i b j order h = mul-dvd-mul b (p ^ j) h (subst (λ x. p ^ j ∣ x) (sym (split_power p i j order)) (dvd-mul_left (p ^ j) (p ^ (i - j))))

-- ---- powers of two and five

abbrev IsCoprime : ℕ → Type 0
IsCoprime n = (n % 2 ≡ 1) × (n % 5 ≢ 0)

still_free : (n k : ℕ) → n % 5 ≢ 0 → (n * 2 ^ k) % 5 ≢ 0
still_free n zero some h = some (let same : n * 1 ≡ n = omega arith in subst (λ x. x % 5 ≡ 0) same h)
still_free n (suc k) some h =
    let step : n * 2 ^ suc k ≡ n * 2 ^ k * 2 = ap (λ x. n * x) (pow-suc 2 k) ∙ sym (mul_assoc n (2 ^ k) 2) in
    let twice : (n * 2 ^ k * 2) % 5 ≡ 0 = subst (λ x. x % 5 ≡ 0) step h in
    still_free n k some (omega arith)

down_to_digits : (a i j b k l : ℕ) → IsCoprime a → IsCoprime b → b * 2 ^ k * 5 ^ l ∣ a * 2 ^ i * 5 ^ j → (k ≤ i) × (l ≤ j) × (b ∣ a)
down_to_digits a i j b k l A B h =
    let fives = down 5 (a * 2 ^ i) j (b * 2 ^ k) l (omega arith) (still_free a i A.1) (free_of_five (b * 2 ^ k) (still_free b k B.1)) h in
    let odd : a % 2 ≢ 0 = omega (arith, A.0) in
    let twos = down 2 a i b k (omega arith) odd (free_of_two b B.0) fives.1 in
    (twos.0, fives.0, twos.1)

up_from_digits : (a i j b k l : ℕ) → k ≤ i → l ≤ j → b ∣ a → b * 2 ^ k * 5 ^ l ∣ a * 2 ^ i * 5 ^ j
up_from_digits a i j b k l twos fives h = up 5 (a * 2 ^ i) j (b * 2 ^ k) l fives (up 2 a i b k twos h)

-- ---- amounts

one_pos : 0 < one
unfolding one
one_pos = mul-pos (power_pos 2 1074 (omega arith)) (power_pos 5 400 (omega arith))

module _ (x d : Fraction) (s t : Amount) (X : IsAmountOf x s) (D : IsAmountOf d t) (some_x : 0 < x.under) (some_d : 0 < d.under) where
  in_units : divides d x ≡ (units s % units t == 0)
  in_units =
      let over : x.over * d.under * one ≡ units s * (x.under * d.under) = mul_right_comm x.over d.under one ∙ ap (λ n. n * d.under) X.0 ∙ mul_assoc (units s) x.under d.under in
      let under : d.over * x.under * one ≡ units t * (x.under * d.under) =
      mul_right_comm d.over x.under one ∙ ap (λ n. n * x.under) D.0 ∙ mul_assoc (units t) d.under x.under ∙ ap (λ n. units t * n) (mul_comm d.under x.under) in
      sym (scaled (x.over * d.under) (d.over * x.under) one one_pos)
      ∙ ap (λ n. n % (d.over * x.under * one) == 0) over
      ∙ ap (λ n. (units s * (x.under * d.under)) % n == 0) under
      ∙ scaled (units s) (units t) (x.under * d.under) (mul-pos some_x some_d)

  pub nothing_left : s.digits ≡ 0 → true ≡ divides d x
  nothing_left none =
      let zero_units : units s ≡ 0 = ap (λ n. n * 2 ^ s.twos * 5 ^ s.fives) none ∙ omega arith in
      sym (in_units ∙ (decided (units s) (units t)).1 (subst (λ n. units t ∣ n) (sym zero_units) (dvd-zero (units t))))

  test_fails : (b : Bool) → (b ≡ true → ⊥) → false ≡ b
  test_fails true never = absurd (never refl)
  test_fails false never = refl

  coprime : (n : ℕ) → IsReduced n → n ≢ 0 → IsCoprime n
  coprime n r some = elim r [ inl none ↦ absurd (some none) | inr free ↦ free ]

  -- what follows if it is a multiple
  digits_divide : s.digits ≢ 0 → t.digits ≢ 0 → units t ∣ units s → (t.twos ≤ s.twos) × (t.fives ≤ s.fives) × (t.digits ∣ s.digits)
  digits_divide some some_too h = down_to_digits s.digits s.twos s.fives t.digits t.twos t.fives (coprime s.digits X.1 some) (coprime t.digits D.1 some_too) h

  refused : ((units t ∣ units s) → ⊥) → false ≡ divides d x
  refused never = test_fails _ (λ passed. never ((decided (units s) (units t)).0 (sym in_units ∙ passed)))

  pub no_divisor : s.digits ≢ 0 → t.digits ≡ 0 → false ≡ divides d x
  no_divisor some none =
      refused (λ h.
      let zero_units : units t ≡ 0 = ap (λ n. n * 2 ^ t.twos * 5 ^ t.fives) none ∙ omega arith in
      let nothing = eq-zero_of_zero-dvd (subst (λ n. n ∣ units s) zero_units h) in
      let positive : 0 < s.digits = omega arith in
      let more : 0 < units s = mul-pos (mul-pos positive (power_pos 2 s.twos (omega arith))) (power_pos 5 s.fives (omega arith)) in
      omega arith)

  pub fewer_twos : s.digits ≢ 0 → t.digits ≢ 0 → s.twos < t.twos → false ≡ divides d x
  fewer_twos some some_too less = refused (λ h. omega (arith, (digits_divide some some_too h).0))

  pub fewer_fives : s.digits ≢ 0 → t.digits ≢ 0 → s.fives < t.fives → false ≡ divides d x
  fewer_fives some some_too less = refused (λ h. omega (arith, (digits_divide some some_too h).1))

  pub by_digits : s.digits ≢ 0 → t.digits ≢ 0 → t.twos ≤ s.twos → t.fives ≤ s.fives → (s.digits % t.digits == 0) ≡ divides d x
  by_digits some some_too twos fives =
      same_from_decides _ _ (decided s.digits t.digits) (Decides-like _
      (λ h. (digits_divide some some_too h).2)
      (λ h. up_from_digits s.digits s.twos s.fives t.digits t.twos t.fives twos fives h)
      (decided (units s) (units t)))
      ∙ sym in_units

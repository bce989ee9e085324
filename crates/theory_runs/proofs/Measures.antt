-- Lemmas about measures and visits, for the proofs of both cycles of a run.
use Rattle.std.proofs.Common.{◌≡◌, ◌+◌, ◌*◌, ◌<◌, ◌≤◌, ℕ, suc, arith}

-- ---- the measure of a call decreases

pub lower_same : (a b t i d : ℕ) → a ≡ b → 20 * b + (i + suc d) ≡ t → 20 * a + i < t
lower_same a b t i d l e = omega (arith, l, e)

pub lower_edge : (a b c t d : ℕ) → a ≡ b → b ≤ c → 20 * c + suc d ≡ t → 20 * a < t
lower_edge a b c t d n l e = omega (arith, n, l, e)

pub lower_across : (a b c t d : ℕ) → a ≡ b → b ≤ c → 20 * c + suc (suc d) ≡ t → 20 * a + 1 < t
lower_across a b c t d n l e = omega (arith, n, l, e)

pub lower_reference : (a b c t d : ℕ) → a ≡ b → b ≤ c → 20 * c + suc (suc (suc d)) ≡ t → 20 * a + 2 < t
lower_reference a b c t d n l e = omega (arith, n, l, e)

pub lower_entered : (a b c t : ℕ) → a ≡ b → c ≡ suc b → 20 * c ≡ t → 20 * a + 11 < t
lower_entered a b c t l n e = omega (arith, l, n, e)

pub lower_shared : (a b t : ℕ) → b ≡ suc a → 20 * b + 1 ≡ t → 20 * a + 12 < t
lower_shared a b t n e = omega (arith, n, e)

pub no_deeper : (depth : ℕ) → depth ≤ depth
no_deeper depth = omega arith

-- ---- visits never decrease

pub as_many : (a b : ℕ) → b ≡ a → a ≤ b
as_many a b e = omega (arith, e)

pub no_fewer : (a b c : ℕ) → a ≤ b → b ≤ c → a ≤ c
no_fewer a b c h k = omega (arith, h, k)

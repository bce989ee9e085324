-- Questions with consecutive numbers.
use Rattle.std.proofs.Common.{ℕ, zero, suc, ◌≡◌, ◌∙◌, ◌≤◌, ◌<◌, ◌+◌, Some, None, length, ap, sym, arith, add-zero}
use Rattle.theory_definitions.specs.Keywords.{Question}
use Rattle.keyword_authoring.specs.Ways.{nth}
use Rattle.keyword_authoring.specs.Items.{each_from}
use Rattle.keyword_authoring.proofs.NextQuestions.{nth-past}

pub length_each : (f : ℕ → Question) (i n : ℕ) → length (each_from f i n) ≤ n
length_each f i zero = omega arith
length_each f i (suc n) = let rest : length (each_from f (i + 1) n) ≤ n = length_each f (i + 1) n in omega arith

one_more : (i k : ℕ) → (i + 1) + k ≡ i + suc k
one_more i k = omega arith

pub nth_each : (f : ℕ → Question) (i n k : ℕ) → k < n → nth k (each_from f i n) ≡ Some (f (i + k))
nth_each f i zero k h = absurd (omega arith)
nth_each f i (suc n) zero h = ap (λ m. Some (f m)) (sym (add-zero i))
nth_each f i (suc n) (suc k) h = nth_each f (i + 1) n k (omega arith) ∙ ap (λ m. Some (f m)) (one_more i k)

pub nth_each_here : (f : ℕ → Question) (n k : ℕ) → k < n → nth k (each_from f 0 n) ≡ Some (f k)
nth_each_here f n k h = nth_each f 0 n k h ∙ ap (λ m. Some (f m)) (from_zero k)
  where
    from_zero : (k : ℕ) → 0 + k ≡ k
    from_zero k = omega arith

pub nth_each_past : (f : ℕ → Question) (i n k : ℕ) → n ≤ k → nth k (each_from f i n) ≡ None
nth_each_past f i n k h = let within : length (each_from f i n) ≤ n = length_each f i n in nth-past k (each_from f i n) (omega arith)

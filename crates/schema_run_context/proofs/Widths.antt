-- How many words rows take, where each is as wide.
use Rattle.std.proofs.Common.{◌≡◌, ℕ, suc, ◌+◌, ◌*◌, List, [], ◌∷◌, length, refl, sym, ◌∙◌, ap, ap₂, arith, true≢false}
use Rattle.std.proofs.Math.Nat.{add-mul, mul_assoc, mul_comm, suc-mul}
use Rattle.schema_run_context.specs.Rows.{AreWide, has_words, numbers_from, row_in, row_numbers, words_in}

one_more_row : (n w : ℕ) → w + n * w ≡ suc n * w
one_more_row n w = let f = suc-mul n w in omega (arith, f)

two_rows : (w g k : ℕ) → g * w + k * (2 * w) ≡ (g + 2 * k) * w
two_rows w g k =
    ap (λ (x : ℕ). g * w + x) (sym (mul_assoc k 2 w) ∙ ap (λ (x : ℕ). x * w) (mul_comm k 2)) ∙ sym (add-mul g (2 * k) w)

words_from : (w k : ℕ) (rs : List (List ℕ)) → AreWide w rs → words_in rs ≡ length (numbers_from k rs) * w
words_from w k [] h = let f : 0 ≡ 0 * w = omega arith in f
words_from w k ([] ∷ rs) h = let f : 0 + words_in rs ≡ words_in rs = omega arith in f ∙ words_from w (k + 1) rs (λ n. h (suc n))
words_from w k ((x ∷ xs) ∷ rs) h =
    ap₂ (λ (a b : ℕ). a + b) (h 0 refl) (words_from w (k + 1) rs (λ n. h (suc n))) ∙ one_more_row (length (numbers_from (k + 1) rs)) w

-- rows that are as wide
pub words_wide : (w : ℕ) (rs : List (List ℕ)) → AreWide w rs → words_in rs ≡ length (row_numbers rs) * w
words_wide w rs h = words_from w 0 rs h

-- those of the guard, and those of verdicts, which are two each
pub all_wide : (w : ℕ) (guard known : List (List ℕ)) → AreWide w guard → AreWide (2 * w) known
    → words_in guard + words_in known ≡ (length (row_numbers guard) + 2 * length (row_numbers known)) * w
all_wide w guard known a b =
    ap₂ (λ (x y : ℕ). x + y) (words_wide w guard a) (words_wide (2 * w) known b) ∙ two_rows w (length (row_numbers guard)) (length (row_numbers known))

-- as many words, where the numbers are the same
pub words_same : (w : ℕ) (old new : List (List ℕ)) → AreWide w old → AreWide w new → row_numbers new ≡ row_numbers old → words_in new ≡ words_in old
words_same w old new a b e = words_wide w new b ∙ ap (λ (ns : List ℕ). length ns * w) e ∙ sym (words_wide w old a)

-- no rows at all are as wide as any
pub none_wide : (w : ℕ) (rs : List (List ℕ)) → rs ≡ [] → AreWide w rs
none_wide w rs e n h = absurd (true≢false (sym h ∙ ap (λ xs. has_words (row_in xs n)) e))

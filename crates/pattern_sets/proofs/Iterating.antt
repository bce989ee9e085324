-- Steps of a relation.
use Rattle.std.proofs.Common.{◌≡◌, ◌≤◌, ◌+◌, ℕ, zero, suc, refl, subst, sym, arith}
use Rattle.pattern_trees.specs.Patterns.{Iterates}

pub iterates_snoc : (R : ℕ → ℕ → Type 0) (n i j k : ℕ) → Iterates R n i j → R j k → Iterates R (suc n) i k
iterates_snoc R zero i j k e r = (k, subst (λ (x : ℕ). R x k) (sym e) r, refl)
iterates_snoc R (suc n) i j k h r = (h.0, h.1, iterates_snoc R n h.0 j k h.2 r)

pub iterates_last : (R : ℕ → ℕ → Type 0) (n i k : ℕ) → Iterates R (suc n) i k → (j : ℕ) × Iterates R n i j × R j k
iterates_last R zero i k h = (i, refl, subst (λ (x : ℕ). R i x) h.2 h.1)
iterates_last R (suc n) i k h = let l = iterates_last R n h.0 k h.2 in (l.0, (h.0, h.1, l.1), l.2)

pub iterates_first : (R : ℕ → ℕ → Type 0) (n count i j : ℕ) → n ≤ count → Iterates R count i j → (k : ℕ) × Iterates R n i k
iterates_first R zero count i j l h = (i, refl)
iterates_first R (suc n) zero i j l h = absurd (omega arith)
iterates_first R (suc n) (suc count) i j l h = let r = iterates_first R n count h.0 j (omega arith) h.2 in (r.0, (h.0, h.1, r.1))

pub iterates_add : (R : ℕ → ℕ → Type 0) (a b c i k j : ℕ) → c ≡ a + b → Iterates R a i k → Iterates R b k j → Iterates R c i j
iterates_add R zero b c i k j e h g =
    let same : b ≡ c = omega arith in
    subst (λ (n : ℕ). Iterates R n i j) same (subst (λ (x : ℕ). Iterates R b x j) (sym h) g)
iterates_add R (suc a) b zero i k j e h g = absurd (omega arith)
iterates_add R (suc a) b (suc c) i k j e h g = (h.0, h.1, iterates_add R a b c h.0 k j (omega arith) h.2 g)

pub iterates_part : (R : ℕ → ℕ → Type 0) (a b c i j : ℕ) → c ≡ a + b → Iterates R c i j → (k : ℕ) × Iterates R a i k × Iterates R b k j
iterates_part R zero b c i j e h = let same : c ≡ b = omega arith in (i, refl, subst (λ (n : ℕ). Iterates R n i j) same h)
iterates_part R (suc a) b zero i j e h = absurd (omega arith)
iterates_part R (suc a) b (suc c) i j e h = let r = iterates_part R a b c h.0 j (omega arith) h.2 in (r.0, (h.0, h.1, r.1), r.2)

-- steps that are taken back
pub iterates_back : (R : ℕ → ℕ → Type 0) (n i j : ℕ) → Iterates (λ x y. R y x) n i j → Iterates R n j i
iterates_back R zero i j e = sym e
iterates_back R (suc n) i j h = iterates_snoc R n j h.0 i (iterates_back R n h.0 j h.2) h.1

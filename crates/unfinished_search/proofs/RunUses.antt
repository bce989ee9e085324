-- How often a run is used.
use Rattle.std.proofs.Common.{◌≡◌, ◌+◌, ◌<◌, ◌≤◌, ℕ, zero, suc, arith, refl, subst}
use Rattle.theory_meaning.specs.Search.{Uses, UsesBelow}

module _ {S X Y : Type 0} (Use : S → X → Y → S → Type 0) where
  pub more_uses : (start : S) (n m : ℕ) (middle end : S) → Uses Use start n middle → Uses Use middle m end → Uses Use start (m + n) end
  more_uses start n zero middle end a b = let e : n ≡ zero + n = omega arith in subst (λ k. Uses Use start k end) e (subst (Uses Use start n) b a)
  more_uses start n (suc m) middle end a (s, given, answer, b, last) =
      let e : suc (m + n) ≡ suc m + n = omega arith in
      subst (λ k. Uses Use start k end) e (s, given, answer, more_uses start n m middle s a b, last)

  pub none_used : (s : S) → UsesBelow 1 Use s s
  none_used s = (0, refl, omega arith)

  pub once_used : (start end : S) (given : X) (answer : Y) → Use start given answer end → UsesBelow 2 Use start end
  once_used start end given answer h = (1, (start, given, answer, refl, h), omega arith)

  -- fewer than n, and then fewer than two
  pub used_more : (n limit : ℕ) (start middle end : S) → n < limit → UsesBelow n Use start middle → UsesBelow 2 Use middle end → UsesBelow limit Use start end
  used_more n limit start middle end less (i, a, few) (j, b, one) = (j + i, more_uses start i j middle end a b, omega arith)

  pub used_within : (n limit : ℕ) (start end : S) → n ≤ limit → UsesBelow n Use start end → UsesBelow limit Use start end
  used_within n limit start end less (i, a, few) = (i, a, omega arith)

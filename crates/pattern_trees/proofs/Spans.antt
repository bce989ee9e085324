-- Which of some spans a code point is in.
use Rattle.std.proofs.Common.{◌≡◌, ◌≤◌, ◌<◌, ◌+◌, ◌-◌, ◌&&◌, ◌||◌, ℕ, zero, suc, Bool, true, false, refl, subst, sym, inl, inr, ◌⊎◌, arith, nat_le, nat_lt, true≢false, List, [], ◌∷◌, length}
use Rattle.std.proofs.lemmas.Bool.Decides.{nat_tests}
use Rattle.pattern_trees.specs.Sets.{in_set, span_at}

le_true : (a b : ℕ) → a ≤ b → nat_le a b ≡ true
le_true a b h = grind (arith, nat_tests)

le_false : (a b : ℕ) → b < a → nat_le a b ≡ false
le_false a b h = grind (arith, nat_tests)

or_left : (a b : Bool) → a ≡ true → (a || b) ≡ true
or_left true b h = refl
or_left false b h = absurd (true≢false (sym h))

or_right : (a b : Bool) → b ≡ true → (a || b) ≡ true
or_right true b h = refl
or_right false b h = h

pub in_set_at : (spans : List (ℕ × ℕ)) (c k : ℕ) → k < length spans → (span_at spans k).0 ≤ c → c ≤ (span_at spans k).1 → in_set spans c ≡ true
in_set_at [] c k l a b = absurd (omega arith)
in_set_at (s ∷ rest) c zero l a b = or_left (nat_le s.0 c && nat_le c s.1) (in_set rest c) (rw (le_true s.0 c a, le_true c s.1 b) refl)
in_set_at (s ∷ rest) c (suc k) l a b = or_right (nat_le s.0 c && nat_le c s.1) (in_set rest c) (in_set_at rest c k (omega arith) a b)

not_in : (first last c : ℕ) → (last < c) ⊎ (c < first) → (nat_le first c && nat_le c last) ≡ false
not_in first last c (inl h) = go (nat_le first c)
  where
    go : (x : Bool) → (x && nat_le c last) ≡ false
    go true = le_false c last h
    go false = refl
not_in first last c (inr h) = rw (le_false first c h) refl

pub in_none : (spans : List (ℕ × ℕ)) (c : ℕ) → ((k : ℕ) → k < length spans → ((span_at spans k).1 < c) ⊎ (c < (span_at spans k).0)) → in_set spans c ≡ false
in_none [] c out = refl
in_none (s ∷ rest) c out = rw (not_in s.0 s.1 c (out 0 (omega arith))) (in_none rest c (λ k l. out (suc k) (omega arith)))

-- a code point is past the first spans and before the others
pub either_side : (spans : List (ℕ × ℕ)) (first end c : ℕ) → end ≤ first → ((k : ℕ) → k < first → (span_at spans k).1 < c) → ((k : ℕ) → end ≤ k → k < length spans → c < (span_at spans k).0) → in_set spans c ≡ false
either_side spans first end c met below above = in_none spans c (λ k l. go k l (nat_lt k first) refl)
  where
    go : (k : ℕ) → k < length spans → (x : Bool) → nat_lt k first ≡ x → ((span_at spans k).1 < c) ⊎ (c < (span_at spans k).0)
    go k l true e = inl (below k (grind (arith, nat_tests)))
    go k l false e = let ge : first ≤ k = grind (arith, nat_tests) in inr (above k (omega arith) l)

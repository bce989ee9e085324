-- Spans in order are determined by the code points in them.
use Rattle.std.proofs.Common.{◌≡◌, ◌<◌, ◌≤◌, ◌==◌, ◌||◌, ◌+◌, ℕ, Bool, true, false, zero, suc, cond, ap, refl, subst, sym, ◌∙◌, ◌⊎◌, inl, inr, arith, [], ◌∷◌}
use Rattle.std.proofs.lemmas.Bool.{cases_lt, cases_eq}
use Rattle.std.proofs.lemmas.Bool.Decides.{nat_tests}
use Rattle.pattern_trees.specs.Sets.{in_set}
use Rattle.pattern_characters.specs.Sets.{Spans, Ascends, with_first, spans_from, spans_where}

abbrev Members : (ℕ → Bool) → ℕ → Spans → Type 0
Members p c xs = (d : ℕ) → c ≤ d → d ≤ 0x10_FFFF → in_set xs d ≡ p d

pub out_below : (xs : Spans) (low d : ℕ) → Ascends low xs → d < low → in_set xs d ≡ false
out_below [] low d h l = refl
out_below (s ∷ rest) low d h l =
    let e = out_below rest (s.1 + 2) d h.3 (omega (arith, h.0, h.1)) in
    let a : d < s.0 = omega (arith, h.0) in
    grind (arith, nat_tests)

pub lower : (xs : Spans) (low more : ℕ) → Ascends more xs → low ≤ more → Ascends low xs
lower [] low more h l = tt
lower (s ∷ rest) low more h l = (omega (arith, h.0), h.1, h.2, h.3)

same_first : (s : ℕ × ℕ) (a b : ℕ) → s.0 ≡ a → s.1 ≡ b → (a, b) ≡ s
same_first (x, y) a b p q = ap (λ (n : ℕ). (n, b)) (sym p) ∙ ap (λ (n : ℕ). (x, n)) (sym q)

first_yes : (c b : ℕ) (rest : Spans) → with_first c ((c + 1, b) ∷ rest) ≡ (c, b) ∷ rest
first_yes c b rest = grind (arith, nat_tests)

first_no : (c low : ℕ) (xs : Spans) → Ascends low xs → c + 1 < low → with_first c xs ≡ (c, c) ∷ xs
first_no c low [] h l = refl
first_no c low (s ∷ rest) h l = let a : c + 1 < s.0 = omega (arith, h.0) in grind (arith, nat_tests)

skip : (p : ℕ → Bool) (n c : ℕ) (xs : Spans) → p c ≡ false → spans_from p n (c + 1) ≡ xs → spans_from p (suc n) c ≡ xs
unfolding spans_from
skip p n c xs e h = ap (λ (b : Bool). cond b (with_first c (spans_from p n (c + 1))) (spans_from p n (c + 1))) e ∙ h

take_in : (p : ℕ → Bool) (n c : ℕ) (xs : Spans) → p c ≡ true → spans_from p n (c + 1) ≡ xs → spans_from p (suc n) c ≡ with_first c xs
unfolding spans_from
take_in p n c xs e h = ap (λ (b : Bool). cond b (with_first c (spans_from p n (c + 1))) (spans_from p n (c + 1))) e ∙ ap (with_first c) h

pub in_first : (s : ℕ × ℕ) (rest : Spans) (d : ℕ) → s.0 ≤ d → d ≤ s.1 → in_set (s ∷ rest) d ≡ true
in_first s rest d l k = grind (arith, nat_tests)

pub past_first : (s : ℕ × ℕ) (rest : Spans) (d : ℕ) → s.1 < d → in_set (s ∷ rest) d ≡ in_set rest d
past_first s rest d l = grind (arith, nat_tests)

cut_first : (s : ℕ × ℕ) (rest : Spans) (a d : ℕ) → s.0 ≤ a → a ≤ d → in_set ((a, s.1) ∷ rest) d ≡ in_set (s ∷ rest) d
cut_first s rest a d l k = grind (arith, nat_tests)

one_more : (p : ℕ → Bool) (n c : ℕ) (xs : Spans) → c ≤ 0x10_FFFF → Ascends c xs → Members p c xs → ((ys : Spans) → Ascends (c + 1) ys → Members p (c + 1) ys → spans_from p n (c + 1) ≡ ys) → spans_from p (suc n) c ≡ xs
one_more p n c [] l h m ih = skip p n c [] (sym (m c (omega arith) l)) (ih [] tt (λ d a b. m d (omega arith) b))
one_more p n c (s ∷ rest) l h m ih = go (cases_lt c s.0) (cases_lt s.0 s.1)
  where
    go : (c < s.0) ⊎ (s.0 ≤ c) → (s.0 < s.1) ⊎ (s.1 ≤ s.0) → spans_from p (suc n) c ≡ s ∷ rest
    go (inl a) q =
        let up : Ascends (c + 1) (s ∷ rest) = (omega arith, h.1, h.2, h.3) in
        skip p n c (s ∷ rest) (sym (m c (omega arith) l) ∙ out_below (s ∷ rest) (c + 1) c up (omega arith)) (ih (s ∷ rest) up (λ d a b. m d (omega arith) b))
    go (inr a) (inl b) =
        let is : s.0 ≡ c = omega (arith, h.0) in
        take_in p n c ((c + 1, s.1) ∷ rest) (sym (m c (omega arith) l) ∙ in_first s rest c (omega arith) (omega arith))
        (ih ((c + 1, s.1) ∷ rest) (omega arith, omega arith, h.2, h.3) (λ d x y. cut_first s rest (c + 1) d (omega arith) x ∙ m d (omega arith) y))
        ∙ first_yes c s.1 rest ∙ ap (λ (x : ℕ × ℕ). x ∷ rest) (same_first s c s.1 is refl)
    go (inr a) (inr b) =
        let is : s.0 ≡ c = omega (arith, h.0) in
        let ends : s.1 ≡ c = omega (arith, h.1) in
        take_in p n c rest (sym (m c (omega arith) l) ∙ in_first s rest c (omega arith) (omega arith))
        (ih rest (lower rest (c + 1) (s.1 + 2) h.3 (omega arith)) (λ d x y. sym (past_first s rest d (omega arith)) ∙ m d (omega arith) y))
        ∙ first_no c (s.1 + 2) rest h.3 (omega arith) ∙ ap (λ (x : ℕ × ℕ). x ∷ rest) (same_first s c c is ends)

none_left : (p : ℕ → Bool) (c : ℕ) (xs : Spans) → c ≡ 0x11_0000 → Ascends c xs → spans_from p zero c ≡ xs
unfolding spans_from
none_left p c [] e h = refl
none_left p c (s ∷ rest) e h = absurd (omega (arith, h.0, h.1, h.2))

unique : (p : ℕ → Bool) (n c : ℕ) (xs : Spans) → c + n ≡ 0x11_0000 → Ascends c xs → Members p c xs → spans_from p n c ≡ xs
unique p zero c xs e h m = none_left p c xs (omega arith) h
unique p (suc n) c xs e h m = one_more p n c xs (omega arith) h m (λ ys. unique p n (c + 1) ys (omega arith))

-- what with_first does
first_ascends : (c : ℕ) (xs : Spans) → c ≤ 0x10_FFFF → Ascends (c + 1) xs → Ascends c (with_first c xs)
first_ascends c [] l h = (omega arith, omega arith, l, tt)
first_ascends c (s ∷ rest) l h = go (cases_eq s.0 (c + 1))
  where
    go : (s.0 ≡ c + 1) ⊎ (s.0 ≡ c + 1 → ⊥) → Ascends c (with_first c (s ∷ rest))
    go (inl e) = let t : (s.0 == c + 1) ≡ true = grind (arith, nat_tests) in
        subst (λ (b : Bool). Ascends c (cond b ((c, s.1) ∷ rest) ((c, c) ∷ s ∷ rest))) (sym t) (omega arith, omega (arith, h.0, h.1), h.2, h.3)
    go (inr e) = let t : (s.0 == c + 1) ≡ false = grind (arith, nat_tests) in
        subst (λ (b : Bool). Ascends c (cond b ((c, s.1) ∷ rest) ((c, c) ∷ s ∷ rest))) (sym t) (omega arith, omega arith, l, (omega (arith, h.0), h.1, h.2, h.3))

first_in : (c : ℕ) (xs : Spans) (d : ℕ) → Ascends (c + 1) xs → in_set (with_first c xs) d ≡ ((d == c) || in_set xs d)
first_in c [] d h = grind (arith, nat_tests)
first_in c (s ∷ rest) d h = go (cases_eq s.0 (c + 1))
  where
    go : (s.0 ≡ c + 1) ⊎ (s.0 ≡ c + 1 → ⊥) → in_set (with_first c (s ∷ rest)) d ≡ ((d == c) || in_set (s ∷ rest) d)
    go (inl e) = let t : (s.0 == c + 1) ≡ true = grind (arith, nat_tests) in
        let o = h.1 in
        ap (λ (b : Bool). in_set (cond b ((c, s.1) ∷ rest) ((c, c) ∷ s ∷ rest)) d) t ∙ grind (arith, nat_tests)
    go (inr e) = let t : (s.0 == c + 1) ≡ false = grind (arith, nat_tests) in
        ap (λ (b : Bool). in_set (cond b ((c, s.1) ∷ rest) ((c, c) ∷ s ∷ rest)) d) t ∙ grind (arith, nat_tests)

from_ascends : (p : ℕ → Bool) (n c : ℕ) → c + n ≡ 0x11_0000 → Ascends c (spans_from p n c)
unfolding spans_from
from_ascends p zero c e = tt
from_ascends p (suc n) c e = go (p c) (from_ascends p n (c + 1) (omega arith))
  where
    go : (b : Bool) → Ascends (c + 1) (spans_from p n (c + 1)) → Ascends c (cond b (with_first c (spans_from p n (c + 1))) (spans_from p n (c + 1)))
    go true h = first_ascends c (spans_from p n (c + 1)) (omega arith) h
    go false h = lower (spans_from p n (c + 1)) c (c + 1) h (omega arith)

from_in : (p : ℕ → Bool) (n c d : ℕ) → c + n ≡ 0x11_0000 → c ≤ d → d ≤ 0x10_FFFF → in_set (spans_from p n c) d ≡ p d
unfolding spans_from
from_in p zero c d e l k = absurd (omega arith)
from_in p (suc n) c d e l k = go (p c) refl (cases_lt c d) (λ q. from_in p n (c + 1) d (omega arith) q k)
  where
    go : (b : Bool) → p c ≡ b → (c < d) ⊎ (d ≤ c) → (c + 1 ≤ d → in_set (spans_from p n (c + 1)) d ≡ p d) → in_set (cond b (with_first c (spans_from p n (c + 1))) (spans_from p n (c + 1))) d ≡ p d
    go true x (inl a) ih =
        let t : (d == c) ≡ false = grind (arith, nat_tests) in
        first_in c (spans_from p n (c + 1)) d (from_ascends p n (c + 1) (omega arith)) ∙ ap (λ (b : Bool). b || in_set (spans_from p n (c + 1)) d) t ∙ ih (omega arith)
    go true x (inr a) ih =
        let same : d ≡ c = omega arith in
        let t : (d == c) ≡ true = grind (arith, nat_tests) in
        first_in c (spans_from p n (c + 1)) d (from_ascends p n (c + 1) (omega arith)) ∙ ap (λ (b : Bool). b || in_set (spans_from p n (c + 1)) d) t ∙ sym (ap p same ∙ x)
    go false x (inl a) ih = ih (omega arith)
    go false x (inr a) ih =
        let same : d ≡ c = omega arith in
        out_below (spans_from p n (c + 1)) (c + 1) d (from_ascends p n (c + 1) (omega arith)) (omega arith) ∙ sym (ap p same ∙ x)

-- the spans of a test are in order, and those of no other test
pub where_ascends : (p : ℕ → Bool) → Ascends 0 (spans_where p)
unfolding spans_where
where_ascends p = from_ascends p 0x11_0000 0 refl

pub where_in : (p : ℕ → Bool) (d : ℕ) → d ≤ 0x10_FFFF → in_set (spans_where p) d ≡ p d
unfolding spans_where
where_in p d k = from_in p 0x11_0000 0 d refl (omega arith) k

pub where_is : (p : ℕ → Bool) (xs : Spans) → Ascends 0 xs → ((d : ℕ) → d ≤ 0x10_FFFF → in_set xs d ≡ p d) → xs ≡ spans_where p
unfolding spans_where
where_is p xs h m = sym (unique p 0x11_0000 0 xs refl h (λ d l k. m d k))

pub where_same : (p q : ℕ → Bool) → ((d : ℕ) → d ≤ 0x10_FFFF → p d ≡ q d) → spans_where p ≡ spans_where q
where_same p q m = where_is q (spans_where p) (where_ascends p) (λ d k. where_in p d k ∙ m d k)

-- What one more span, and what the gaps, make of spans in order.
use Rattle.std.proofs.Common.{◌≡◌, ◌<◌, ◌≤◌, ◌||◌, not, ◌+◌, ◌-◌, min, max, ℕ, Bool, true, false, cond, ap, refl, subst, sym, ◌∙◌, ◌⊎◌, inl, inr, arith, nat_lt, [], ◌∷◌, ◌++◌}
use Rattle.std.proofs.lemmas.List.{append-nil}
use Rattle.std.proofs.lemmas.Bool.{cases_lt}
use Rattle.std.proofs.lemmas.Bool.Decides.{nat_tests}
use Rattle.unicode.specs.Rows.{in_ranges}
use Rattle.pattern_trees.specs.Sets.{in_set}
use Rattle.pattern_characters.specs.Characters.{is_between}
use Rattle.pattern_characters.specs.Sets.{Spans, Ascends, spans_where, with_more, others, inserted, merged, gap, gaps}
use Rattle.pattern_characters.proofs.Ordered.{lower, out_below, in_first, past_first, where_ascends, where_in, where_is, where_same}

or_assoc : (x y z : Bool) → ((x || y) || z) ≡ (x || (y || z))
or_assoc true y z = refl
or_assoc false y z = refl

or_comm : (x y : Bool) → (x || y) ≡ (y || x)
or_comm true true = refl
or_comm true false = refl
or_comm false true = refl
or_comm false false = refl

shuffle : (r s n : Bool) → (r || (s || n)) ≡ ((s || r) || n)
shuffle true true n = refl
shuffle true false n = refl
shuffle false true n = refl
shuffle false false n = refl

lt_of : (a b : ℕ) → nat_lt a b ≡ true → a < b
lt_of a b t = grind (arith, nat_tests)

not_lt : (a b : ℕ) → nat_lt a b ≡ false → b ≤ a
not_lt a b t = grind (arith, nat_tests)

of_lt : (a b : ℕ) → a < b → nat_lt a b ≡ true
of_lt a b t = grind (arith, nat_tests)

of_not_lt : (a b : ℕ) → b ≤ a → nat_lt a b ≡ false
of_not_lt a b t = grind (arith, nat_tests)

between_yes : (a b d : ℕ) → a ≤ d → d ≤ b → is_between a b d ≡ true
between_yes a b d x y = grind (arith, nat_tests)

between_low : (a b d : ℕ) → d < a → is_between a b d ≡ false
between_low a b d x = grind (arith, nat_tests)

between_high : (a b d : ℕ) → b < d → is_between a b d ≡ false
between_high a b d x = grind (arith, nat_tests)

-- two spans that meet make one
hull : (s t low high d : ℕ) → low ≤ high → s ≤ t → low ≤ t + 1 → s ≤ high + 1 → is_between (min low s) (max high t) d ≡ (is_between s t d || is_between low high d)
hull s t low high d a b e f = go (cases_lt d s) (cases_lt t d) (cases_lt d low) (cases_lt high d)
  where
    go : (d < s) ⊎ (s ≤ d) → (t < d) ⊎ (d ≤ t) → (d < low) ⊎ (low ≤ d) → (high < d) ⊎ (d ≤ high) → is_between (min low s) (max high t) d ≡ (is_between s t d || is_between low high d)
    go (inr w) (inr x) y z = between_yes (min low s) (max high t) d (omega arith) (omega arith) ∙ sym (ap (λ (v : Bool). v || is_between low high d) (between_yes s t d w x))
    go (inl w) x (inl y) z = between_low (min low s) (max high t) d (omega arith) ∙ sym (ap (λ (v : Bool). v || is_between low high d) (between_low s t d w) ∙ between_low low high d y)
    go (inl w) x (inr y) (inr z) = between_yes (min low s) (max high t) d (omega arith) (omega arith) ∙ sym (ap (λ (v : Bool). v || is_between low high d) (between_low s t d w) ∙ between_yes low high d y z)
    go (inl w) x (inr y) (inl z) = absurd (omega arith)
    go (inr w) (inl x) y (inl z) = between_high (min low s) (max high t) d (omega arith) ∙ sym (ap (λ (v : Bool). v || is_between low high d) (between_high s t d x) ∙ between_high low high d z)
    go (inr w) (inl x) (inr y) (inr z) = between_yes (min low s) (max high t) d (omega arith) (omega arith) ∙ sym (ap (λ (v : Bool). v || is_between low high d) (between_high s t d x) ∙ between_yes low high d y z)
    go (inr w) (inl x) (inl y) (inr z) = absurd (omega arith)

-- the first span does not end far before
abbrev Meets : ℕ → Spans → Type 0
Meets low [] = Unit {0}
Meets low (s ∷ rest) = low ≤ s.1 + 1

meets_next : (low more : ℕ) (xs : Spans) → Ascends more xs → low ≤ more → Meets low xs
meets_next low more [] h l = tt
meets_next low more (s ∷ rest) h l = omega (arith, h.0, h.1)

clamp : (n : ℕ) → n ≤ 0x10_FFFF → min (n + 1) 4294967295 ≡ n + 1
clamp n l = omega arith

merged_ascends : (xs : Spans) (first low high : ℕ) → Ascends first xs → first ≤ low → low ≤ high → high ≤ 0x10_FFFF → Ascends first (merged low high xs)
unfolding merged
merged_ascends [] first low high h a b c = (a, b, c, tt)
merged_ascends (s ∷ rest) first low high h a b c =
    go (nat_lt (min (high + 1) 4294967295) s.0) refl
    (merged_ascends rest first (min low s.0) (max high s.1) (lower rest first (s.1 + 2) h.3 (omega (arith, h.0, h.1))) (omega (arith, h.0)) (omega (arith, h.1)) (omega (arith, h.2)))
  where
    go : (v : Bool) → nat_lt (min (high + 1) 4294967295) s.0 ≡ v → Ascends first (merged (min low s.0) (max high s.1) rest) → Ascends first (cond v ((low, high) ∷ s ∷ rest) (merged (min low s.0) (max high s.1) rest))
    go true t ih = (a, b, c, (omega (arith, lt_of (min (high + 1) 4294967295) s.0 t, clamp high c), h.1, h.2, h.3))
    go false t ih = ih

merged_in : (xs : Spans) (first low high d : ℕ) → Ascends first xs → Meets low xs → low ≤ high → high ≤ 0x10_FFFF → in_set (merged low high xs) d ≡ (in_set xs d || is_between low high d)
unfolding merged
merged_in [] first low high d h w b c = or_comm (is_between low high d) false
merged_in (s ∷ rest) first low high d h w b c =
    go (nat_lt (min (high + 1) 4294967295) s.0) refl
    (merged_in rest (s.1 + 2) (min low s.0) (max high s.1) d h.3 (meets_next (min low s.0) (s.1 + 2) rest h.3 (omega (arith, h.1))) (omega (arith, h.1)) (omega (arith, h.2)))
  where
    go : (v : Bool) → nat_lt (min (high + 1) 4294967295) s.0 ≡ v → in_set (merged (min low s.0) (max high s.1) rest) d ≡ (in_set rest d || is_between (min low s.0) (max high s.1) d) → in_set (cond v ((low, high) ∷ s ∷ rest) (merged (min low s.0) (max high s.1) rest)) d ≡ (in_set (s ∷ rest) d || is_between low high d)
    go true t ih = or_comm (is_between low high d) (in_set (s ∷ rest) d)
    go false t ih = ih ∙ ap (λ (v : Bool). in_set rest d || v) (hull s.0 s.1 low high d b h.1 w (omega (arith, not_lt (min (high + 1) 4294967295) s.0 t, clamp high c))) ∙ shuffle (in_set rest d) (is_between s.0 s.1 d) (is_between low high d)

inserted_ascends : (xs : Spans) (first low high : ℕ) → Ascends first xs → first ≤ low → low ≤ high → high ≤ 0x10_FFFF → Ascends first (inserted low high xs)
unfolding inserted
inserted_ascends [] first low high h a b c = merged_ascends [] first low high h a b c
inserted_ascends (s ∷ rest) first low high h a b c = go (nat_lt s.1 (low - 1)) refl (λ q. inserted_ascends rest (s.1 + 2) low high h.3 q b c)
  where
    go : (v : Bool) → nat_lt s.1 (low - 1) ≡ v → (s.1 + 2 ≤ low → Ascends (s.1 + 2) (inserted low high rest)) → Ascends first (cond v (s ∷ inserted low high rest) (merged low high (s ∷ rest)))
    go true t ih = (h.0, h.1, h.2, ih (omega (arith, lt_of s.1 (low - 1) t)))
    go false t ih = merged_ascends (s ∷ rest) first low high h a b c

inserted_in : (xs : Spans) (first low high d : ℕ) → Ascends first xs → low ≤ high → high ≤ 0x10_FFFF → in_set (inserted low high xs) d ≡ (in_set xs d || is_between low high d)
unfolding inserted
inserted_in [] first low high d h b c = merged_in [] first low high d h tt b c
inserted_in (s ∷ rest) first low high d h b c = go (nat_lt s.1 (low - 1)) refl (inserted_in rest (s.1 + 2) low high d h.3 b c)
  where
    go : (v : Bool) → nat_lt s.1 (low - 1) ≡ v → in_set (inserted low high rest) d ≡ (in_set rest d || is_between low high d) → in_set (cond v (s ∷ inserted low high rest) (merged low high (s ∷ rest))) d ≡ (in_set (s ∷ rest) d || is_between low high d)
    go true t ih = ap (λ (v : Bool). is_between s.0 s.1 d || v) ih ∙ sym (or_assoc (is_between s.0 s.1 d) (in_set rest d) (is_between low high d))
    go false t ih = merged_in (s ∷ rest) first low high d h (omega (arith, not_lt s.1 (low - 1) t)) b c

-- one more span is what a test of it adds
pub more_span : (xs : Spans) (low high : ℕ) → Ascends 0 xs → low ≤ high → high ≤ 0x10_FFFF → inserted low high xs ≡ with_more xs (is_between low high)
unfolding with_more
more_span xs low high h b c = where_is (λ d. in_set xs d || is_between low high d) (inserted low high xs) (inserted_ascends xs 0 low high h (omega arith) b c) (λ d k. inserted_in xs 0 low high d h b c)

pub more_ascends : (xs : Spans) (p : ℕ → Bool) → Ascends 0 (with_more xs p)
unfolding with_more
more_ascends xs p = where_ascends (λ d. in_set xs d || p d)

pub more_in : (xs : Spans) (p : ℕ → Bool) (d : ℕ) → d ≤ 0x10_FFFF → in_set (with_more xs p) d ≡ (in_set xs d || p d)
unfolding with_more
more_in xs p d k = where_in (λ d. in_set xs d || p d) d k

pub more_same : (xs : Spans) (p q : ℕ → Bool) → ((d : ℕ) → d ≤ 0x10_FFFF → p d ≡ q d) → with_more xs p ≡ with_more xs q
unfolding with_more
more_same xs p q m = where_same (λ d. in_set xs d || p d) (λ d. in_set xs d || q d) (λ d k. ap (λ (v : Bool). in_set xs d || v) (m d k))

pub more_more : (xs : Spans) (p q : ℕ → Bool) → with_more (with_more xs p) q ≡ with_more xs (λ d. p d || q d)
unfolding with_more
more_more xs p q = where_same (λ d. in_set (with_more xs p) d || q d) (λ d. in_set xs d || (p d || q d)) (λ d k. ap (λ (v : Bool). v || q d) (more_in xs p d k) ∙ or_assoc (in_set xs d) (p d) (q d))

or_none : (x y : Bool) → y ≡ false → x ≡ (x || y)
or_none true y e = refl
or_none false y e = sym e

pub more_none : (xs : Spans) (p : ℕ → Bool) → Ascends 0 xs → ((d : ℕ) → d ≤ 0x10_FFFF → p d ≡ false) → with_more xs p ≡ xs
unfolding with_more
more_none xs p h m = sym (where_is (λ d. in_set xs d || p d) xs h (λ d k. or_none (in_set xs d) (p d) (m d k)))

-- the next span of a list of them
pub more_next : (xs : Spans) (s : ℕ × ℕ) (rest : Spans) → with_more (with_more xs (is_between s.0 s.1)) (in_set rest) ≡ with_more xs (in_set (s ∷ rest))
more_next xs s rest = more_more xs (is_between s.0 s.1) (in_set rest)

pub no_more : (xs : Spans) → Ascends 0 xs → with_more xs (in_set []) ≡ xs
no_more xs h = more_none xs (in_set []) h (λ d k. refl)

pub in_ranges-is : (xs : Spans) (d : ℕ) → in_ranges xs d ≡ in_set xs d
unfolding in_ranges
in_ranges-is [] d = refl
in_ranges-is (s ∷ rest) d = ap (λ (v : Bool). is_between s.0 s.1 d || v) (in_ranges-is rest d)

-- the gaps
pub gap_ascends : (next first : ℕ) (xs : Spans) → first ≤ 0x11_0000 → Ascends (first + 1) xs → next ≤ first + 1 → Ascends next (gap next first ++ xs)
gap_ascends next first xs l h k = go (nat_lt next first) refl
  where
    go : (v : Bool) → nat_lt next first ≡ v → Ascends next (cond v ((next, first - 1) ∷ []) [] ++ xs)
    go true t = let q = lt_of next first t in (omega arith, omega arith, omega arith, lower xs (first - 1 + 2) (first + 1) h (omega arith))
    go false t = lower xs next (first + 1) h k

gaps_ascends : (xs : Spans) (next low : ℕ) → Ascends low xs → next ≤ low → next ≤ 0x11_0000 → Ascends next (gaps next xs)
unfolding gaps
gaps_ascends [] next low h a b = subst (λ (v : Spans). Ascends next v) (append-nil (gap next 0x11_0000)) (gap_ascends next 0x11_0000 [] (omega arith) tt (omega arith))
gaps_ascends (s ∷ rest) next low h a b =
    subst (λ (v : ℕ). Ascends next (gap next s.0 ++ gaps v rest)) (sym (clamp s.1 h.2))
    (gap_ascends next s.0 (gaps (s.1 + 1) rest) (omega (arith, h.1, h.2)) (lower (gaps (s.1 + 1) rest) (s.0 + 1) (s.1 + 1) (gaps_ascends rest (s.1 + 1) (s.1 + 2) h.3 (omega arith) (omega (arith, h.2))) (omega (arith, h.1))) (omega (arith, h.0)))

gap_in : (next first d : ℕ) (xs : Spans) → next ≤ d → in_set (gap next first ++ xs) d ≡ (nat_lt d first || in_set xs d)
gap_in next first d xs l = go (nat_lt next first) refl (nat_lt d first) refl
  where
    go : (v : Bool) → nat_lt next first ≡ v → (w : Bool) → nat_lt d first ≡ w → in_set (cond v ((next, first - 1) ∷ []) [] ++ xs) d ≡ (w || in_set xs d)
    go true t true u = let q = lt_of d first u in in_first (next, first - 1) xs d l (omega arith)
    go true t false u = let q = not_lt d first u in let r = lt_of next first t in past_first (next, first - 1) xs d (omega arith)
    go false t true u = absurd (omega (arith, lt_of d first u, not_lt next first t))
    go false t false u = refl

gaps_in : (xs : Spans) (next low d : ℕ) → Ascends low xs → next ≤ d → d ≤ 0x10_FFFF → in_set (gaps next xs) d ≡ not (in_set xs d)
unfolding gaps
gaps_in [] next low d h l k = ap (λ (v : Spans). in_set v d) (sym (append-nil (gap next 0x11_0000))) ∙ gap_in next 0x11_0000 d [] l ∙ ap (λ (v : Bool). v || false) (of_lt d 0x11_0000 (omega arith))
gaps_in (s ∷ rest) next low d h l k =
    ap (λ (v : ℕ). in_set (gap next s.0 ++ gaps v rest) d) (clamp s.1 h.2) ∙ gap_in next s.0 d (gaps (s.1 + 1) rest) l ∙ go (cases_lt d s.0) (cases_lt s.1 d) (λ q. gaps_in rest (s.1 + 1) (s.1 + 2) d h.3 q k)
  where
    go : (d < s.0) ⊎ (s.0 ≤ d) → (s.1 < d) ⊎ (d ≤ s.1) → (s.1 + 1 ≤ d → in_set (gaps (s.1 + 1) rest) d ≡ not (in_set rest d)) → (nat_lt d s.0 || in_set (gaps (s.1 + 1) rest) d) ≡ not (in_set (s ∷ rest) d)
    go (inl x) q ih = ap (λ (v : Bool). v || in_set (gaps (s.1 + 1) rest) d) (of_lt d s.0 x) ∙ sym (ap not (out_below (s ∷ rest) s.0 d (omega arith, h.1, h.2, h.3) x))
    go (inr x) (inl y) ih = ap (λ (v : Bool). v || in_set (gaps (s.1 + 1) rest) d) (of_not_lt d s.0 x) ∙ ih (omega arith) ∙ sym (ap not (past_first s rest d y))
    go (inr x) (inr y) ih =
        ap (λ (v : Bool). v || in_set (gaps (s.1 + 1) rest) d) (of_not_lt d s.0 x)
        ∙ out_below (gaps (s.1 + 1) rest) (s.1 + 1) d (gaps_ascends rest (s.1 + 1) (s.1 + 2) h.3 (omega arith) (omega (arith, h.2))) (omega arith)
        ∙ sym (ap not (in_first s rest d x y))

pub others_are : (xs : Spans) → Ascends 0 xs → gaps 0 xs ≡ others xs
unfolding others
others_are xs h = where_is (λ d. not (in_set xs d)) (gaps 0 xs) (gaps_ascends xs 0 0 h (omega arith) (omega arith)) (λ d k. gaps_in xs 0 0 d h (omega arith) k)

pub others_ascends : (xs : Spans) → Ascends 0 (others xs)
unfolding others
others_ascends xs = where_ascends (λ d. not (in_set xs d))

pub others_in : (xs : Spans) (d : ℕ) → d ≤ 0x10_FFFF → in_set (others xs) d ≡ not (in_set xs d)
unfolding others
others_in xs d k = where_in (λ d. not (in_set xs d)) d k

-- spans in order, as a fact with one proof
abbrev pub Kept : Spans → Type 0
Kept xs = xs ≡ spans_where (in_set xs)

pub kept_ascends : (xs : Spans) → Kept xs → Ascends 0 xs
kept_ascends xs k = subst (λ (v : Spans). Ascends 0 v) (sym k) (where_ascends (in_set xs))

pub where_kept : (p : ℕ → Bool) → Kept (spans_where p)
where_kept p = where_is (in_set (spans_where p)) (spans_where p) (where_ascends p) (λ d k. refl)

pub more_kept : (xs : Spans) (p : ℕ → Bool) → Kept (with_more xs p)
unfolding with_more
more_kept xs p = where_kept (λ d. in_set xs d || p d)

pub others_kept : (xs : Spans) → Kept (others xs)
unfolding others
others_kept xs = where_kept (λ d. not (in_set xs d))

pub none_kept : Kept []
none_kept = where_is (in_set []) [] tt (λ d k. refl)

-- one more span, and the others, at spans in order
pub kept_more_span : (xs : Spans) (low high : ℕ) → Kept xs → low ≤ high → high ≤ 0x10_FFFF → inserted low high xs ≡ with_more xs (is_between low high)
kept_more_span xs low high k = more_span xs low high (kept_ascends xs k)

pub kept_others : (xs : Spans) → Kept xs → gaps 0 xs ≡ others xs
kept_others xs k = others_are xs (kept_ascends xs k)

pub kept_no_more : (xs : Spans) → Kept xs → with_more xs (in_set []) ≡ xs
kept_no_more xs k = no_more xs (kept_ascends xs k)

-- The spans of the parts of a class.
use Rattle.std.proofs.Common.{◌≡◌, ◌<◌, ◌≤◌, ◌==◌, ◌&&◌, ◌||◌, not, ◌+◌, ℕ, Bool, true, false, cond, ap, refl, sym, ◌∙◌, ◌⊎◌, inl, inr, arith, nat_le, [], ◌∷◌}
use Rattle.std.proofs.lemmas.Bool.{cases_lt}
use Rattle.std.proofs.lemmas.Bool.Decides.{nat_tests}
use Rattle.std.specs.List.{list_any, list_all}
use Rattle.unicode.specs.CaseFolding.{fold_pairs}
use Rattle.unicode.specs.Rows.{HasExactly, AreRanges, is_range}
use Rattle.ucd_sets.specs.Sets as property
use Rattle.ucd_sets.specs.declared.set.Set.{Set}
use Rattle.pattern_trees.specs.Sets.{in_set}
use Rattle.pattern_trees.specs.Patterns.{is_line_end}
use Rattle.pattern_characters.specs.Characters.{is_between}
use Rattle.pattern_characters.specs.Sets.{Spans, Ascends, spans_where, with_more, with_spans, others, unless, has_twin, twins, folded, dot_node}
use Rattle.pattern_trees.specs.Nodes.{OneOf}
use Rattle.pattern_characters.specs.declared.parts.Flags.{Flags}
use Rattle.pattern_characters.proofs.Ordered.{where_same}
use Rattle.pattern_characters.proofs.Changing.{Kept, kept_ascends, more_kept, more_in, more_same, more_next, kept_no_more, in_ranges-is}

same_one : (v d : ℕ) → is_between v v d ≡ (d == v)
same_one v d = grind (arith, nat_tests)

pub with_one : (xs : Spans) (v : ℕ) → with_more xs (is_between v v) ≡ with_more xs (λ c. c == v)
with_one xs v = more_same xs (is_between v v) (λ c. c == v) (λ d k. same_one v d)

pub the_others : (p : ℕ → Bool) → others (with_more [] p) ≡ with_more [] (λ c. not (p c))
unfolding others with_more
the_others p = where_same (λ d. not (in_set (with_more [] p) d)) (λ c. not (p c)) (λ d k. ap not (more_in [] p d k))

pub of_property : (ranges : Spans) (set : Set) → HasExactly ranges (property.in_set set) → with_more [] (in_set ranges) ≡ with_more [] (property.in_set set)
of_property ranges set h = more_same [] (in_set ranges) (property.in_set set) (λ d k. sym (in_ranges-is ranges d) ∙ h d k)

are_ranges_from : (xs : Spans) (low : ℕ) → Ascends low xs → AreRanges xs
are_ranges_from [] low h = refl
are_ranges_from (s ∷ rest) low h =
    let i = are_ranges_from rest (s.1 + 2) h.3 in
    let a = h.1 in let b = h.2 in
    grind (arith, nat_tests)

pub kept_ranges : (xs : Spans) → Kept xs → AreRanges xs
kept_ranges xs k = are_ranges_from xs 0 (kept_ascends xs k)

pub with_members : (xs : Spans) (p : ℕ → Bool) → with_more xs (in_set (with_more [] p)) ≡ with_more xs p
with_members xs p = more_same xs (in_set (with_more [] p)) p (λ d k. more_in [] p d k)

twins_in : (xs pairs : Spans) (d : ℕ) → d ≤ 0x10_FFFF → in_set (twins xs pairs) d ≡ list_any (λ pair. (pair.0 == d) && in_set xs pair.1) pairs
twins_in xs [] d k = refl
twins_in xs (pair ∷ pairs) d k = go (in_set xs pair.1) (cases_lt 0x10_FFFF pair.0) (twins_in xs pairs d k)
  where
    go : (v : Bool) → (0x10_FFFF < pair.0) ⊎ (pair.0 ≤ 0x10_FFFF) → in_set (twins xs pairs) d ≡ list_any (λ pair. (pair.0 == d) && in_set xs pair.1) pairs →
        in_set (cond (nat_le pair.0 0x10_FFFF && v) ((pair.0, pair.0) ∷ twins xs pairs) (twins xs pairs)) d ≡ (((pair.0 == d) && v) || list_any (λ pair. (pair.0 == d) && in_set xs pair.1) pairs)
    go true (inl x) ih = let t : nat_le pair.0 0x10_FFFF ≡ false = grind (arith, nat_tests) in let u : (pair.0 == d) ≡ false = grind (arith, nat_tests) in
        ap (λ (w : Bool). in_set (cond (w && true) ((pair.0, pair.0) ∷ twins xs pairs) (twins xs pairs)) d) t ∙ ih ∙ sym (ap (λ (w : Bool). (w && true) || list_any (λ pair. (pair.0 == d) && in_set xs pair.1) pairs) u)
    go true (inr x) ih = let t : nat_le pair.0 0x10_FFFF ≡ true = grind (arith, nat_tests) in let u : is_between pair.0 pair.0 d ≡ ((pair.0 == d) && true) = grind (arith, nat_tests) in
        ap (λ (w : Bool). in_set (cond (w && true) ((pair.0, pair.0) ∷ twins xs pairs) (twins xs pairs)) d) t ∙ ap (λ (w : Bool). w || in_set (twins xs pairs) d) u ∙ ap (λ (w : Bool). ((pair.0 == d) && true) || w) ih
    go false q ih = ap (λ (w : Bool). in_set (cond w ((pair.0, pair.0) ∷ twins xs pairs) (twins xs pairs)) d) (and_false (nat_le pair.0 0x10_FFFF)) ∙ ih ∙ sym (ap (λ (w : Bool). w || list_any (λ pair. (pair.0 == d) && in_set xs pair.1) pairs) (and_false (pair.0 == d)))
      where
        and_false : (b : Bool) → (b && false) ≡ false
        and_false true = refl
        and_false false = refl

pub with_twins : (xs : Spans) → with_more xs (in_set (twins xs fold_pairs)) ≡ folded true xs
unfolding folded
with_twins xs = more_same xs (in_set (twins xs fold_pairs)) (has_twin xs) (λ d k. twins_in xs fold_pairs d k)

pub not_folded : (xs : Spans) → folded false xs ≡ xs
unfolding folded
not_folded xs = refl

every : (d : ℕ) → d ≤ 0x10_FFFF → is_between 0 0x10_FFFF d ≡ true
every d k = grind (arith, nat_tests)

pub all_characters : with_more [] (is_between 0 0x10_FFFF) ≡ spans_where (λ c. true)
unfolding with_more
all_characters = where_same (is_between 0 0x10_FFFF) (λ c. true) every

pub no_line_ends : others (with_more [] is_line_end) ≡ spans_where (λ c. not (is_line_end c))
unfolding others
no_line_ends = where_same (λ d. not (in_set (with_more [] is_line_end) d)) (λ c. not (is_line_end c)) (λ d k. ap not (more_in [] is_line_end d k))

-- further spans are what a test of them adds
pub all_spans : (xs ys : Spans) → Kept xs → with_spans xs ys ≡ with_more xs (in_set ys)
unfolding with_spans
all_spans xs [] k = sym (kept_no_more xs k)
all_spans xs (s ∷ rest) k = all_spans (with_more xs (is_between s.0 s.1)) rest (more_kept xs (is_between s.0 s.1)) ∙ more_next xs s rest

pub unless_plain : (ranges : Spans) (negated : Bool) → negated ≡ false → with_more [] (in_set ranges) ≡ with_more [] (λ c. unless negated (in_set ranges c))
unless_plain ranges negated e = more_same [] (in_set ranges) (λ c. unless negated (in_set ranges c)) (λ d k. ap (λ (b : Bool). unless b (in_set ranges d)) (sym e))

pub unless_others : (ranges : Spans) (negated : Bool) → negated ≡ true → others (with_more [] (in_set ranges)) ≡ with_more [] (λ c. unless negated (in_set ranges c))
unless_others ranges negated e = the_others (in_set ranges) ∙ more_same [] (λ c. not (in_set ranges c)) (λ c. unless negated (in_set ranges c)) (λ d k. ap (λ (b : Bool). unless b (in_set ranges d)) (sym e))

pub of_set : (ranges : Spans) (set : Set) (negated : Bool) → HasExactly ranges (property.in_set set) → with_more [] (λ c. unless negated (in_set ranges c)) ≡ with_more [] (λ c. unless negated (property.in_set set c))
of_set ranges set negated h = more_same [] (λ c. unless negated (in_set ranges c)) (λ c. unless negated (property.in_set set c)) (λ d k. ap (unless negated) (sym (in_ranges-is ranges d) ∙ h d k))

pub twins_ranges : (xs pairs : Spans) → AreRanges (twins xs pairs)
twins_ranges xs [] = refl
twins_ranges xs (pair ∷ pairs) = go (nat_le pair.0 0x10_FFFF) refl (in_set xs pair.1) (twins_ranges xs pairs)
  where
    go : (v : Bool) → nat_le pair.0 0x10_FFFF ≡ v → (w : Bool) → AreRanges (twins xs pairs) → AreRanges (cond (v && w) ((pair.0, pair.0) ∷ twins xs pairs) (twins xs pairs))
    go true e true h = let t : is_range (pair.0, pair.0) ≡ true = grind (arith, nat_tests) in ap (λ (b : Bool). b && list_all is_range (twins xs pairs)) t ∙ h
    go true e false h = h
    go false e w h = h

-- the dot with and without the flag s
pub dot_all : (flags : Flags) → flags.dot_all ≡ true → dot_node flags ≡ OneOf (spans_where (λ c. true))
unfolding dot_node
dot_all flags e = ap (λ (b : Bool). OneOf (spans_where (λ c. b || not (is_line_end c)))) e

pub dot_lines : (flags : Flags) → flags.dot_all ≡ false → dot_node flags ≡ OneOf (spans_where (λ c. not (is_line_end c)))
unfolding dot_node
dot_lines flags e = ap (λ (b : Bool). OneOf (spans_where (λ c. b || not (is_line_end c)))) e

-- The positions at which texts are cut.
use Rattle.std.proofs.Common.{◌≡◌, ◌≢◌, ◌<◌, ◌≤◌, ◌-◌, ◌==◌, ◌∙◌, List, [], ◌∷◌, None, Option, Some, ap, arith, Bor, get_or, length, not, option_map, refl, sym, take, true, ℕ, inl, inr, add-one, suc, zero}
use Rattle.std.specs.Prelude.{IsCharBoundary, IsUtf8, MatchOption}
use Rattle.std.specs.List.{position_or_len, slice_range, suffix_len}
use Rattle.std.proofs.lemmas.Bool.{cases_Bool}
use Rattle.std.proofs.lemmas.Bool.Decides.{Decides-eqb, nat_tests}
use Rattle.std.proofs.lemmas.Str.{IsCharBoundary-after_ascii, IsCharBoundary-start}
use Rattle.std.proofs.lemmas.List.Sums.{passes_at_first, prefix_len-le-length, suffix_len_is}
use Rattle.uri_references.specs.declared.components.Component.{Component}
use Rattle.uri_references.specs.declared.components.Component.TheVariants.{Authority, Path, Query, Scheme}
use Rattle.uri_references.specs.Components.{Text, after_mark, ends}
use Rattle.uri_references.specs.Paths.{through_last_slash}

-- each mark is of ASCII
pub marks_are_ascii : (k : Component) (c : ℕ) → ends k c ≡ true → c < 128
marks_are_ascii Scheme c is = grind (arith, nat_tests)
marks_are_ascii Authority c is = grind (arith, nat_tests)
marks_are_ascii Path c is = grind (arith, nat_tests)
marks_are_ascii Query c is = grind (arith, nat_tests)

pub end_is_boundary : (k : Component) (t : Text) → IsCharBoundary t (position_or_len (ends k) t)
end_is_boundary k t = (
  prefix_len-le-length (λ c. not (ends k c)) t,
  λ within large. absurd (let small = marks_are_ascii k _ (passes_at_first (ends k) t 0 within) in omega arith),
)

-- `strip_prefix` leaves the text after the mark
pub marked : (r : Option (Bor Text)) (c : ℕ) (t : Text) → MatchOption r ((more : List ℕ) → t ≢ c ∷ more) (λ x. t ≡ c ∷ x.now)
    → option_map (λ x. x.now) r ≡ after_mark c t
marked None c [] h = refl
marked None c (d ∷ ds) h = elim (cases_Bool (d == c)) [
  | inl same ↦ absurd (h ds (ap (λ e. e ∷ ds) ((Decides-eqb d c).0 same)))
  | inr other ↦ rw other refl
]
marked (Some x) c t h = let same : (c == c) ≡ true = (Decides-eqb c c).1 refl in rw h (rw same refl)

-- a text up to its last slash
pub slashed : (s t : Text) (n : ℕ) → s ≡ t → n ≤ length s → ((k : ℕ) → n ≤ k → k < length s → not (get_or s k 0 == 47) ≡ true)
    → (0 < n → get_or s (n - 1) 0 ≡ 47) → take n t ≡ through_last_slash t
slashed s t n same within none slash =
    let left : suffix_len (λ c. not (c == 47)) s ≡ length s - n =
    suffix_len_is (λ c. not (c == 47)) s n 0 within none (λ some. ap (λ c. not (c == 47)) (slash some)) in
    let front : n ≡ length s - suffix_len (λ c. not (c == 47)) s = omega arith in
    ap (take n) (sym same) ∙ ap (λ m. take m s) front ∙ ap through_last_slash same

after_slash : (t : Text) (n : ℕ) → IsUtf8 t → n ≤ length t → (0 < n → get_or t (n - 1) 0 ≡ 47) → IsCharBoundary t n
after_slash t zero utf8 within slash = IsCharBoundary-start t utf8
after_slash t (suc m) utf8 within slash =
    let there : get_or t m 0 ≡ 47 = ap (λ k. get_or t k 0) (omega arith) ∙ slash (omega arith) in
    let small : get_or t m 0 < 128 = omega arith in
    rw (← add-one m) (IsCharBoundary-after_ascii t m utf8 (omega arith) small)

-- after a slash, or at the start, a text may be cut
pub slash_is_boundary : (s t : Text) (n : ℕ) → s ≡ t → IsUtf8 t → n ≤ length s → (0 < n → get_or s (n - 1) 0 ≡ 47) → IsCharBoundary t n
slash_is_boundary s t n same utf8 within slash =
    after_slash t n utf8 (rw same at within) (λ some. ap (λ u. get_or u (n - 1) 0) (sym same) ∙ slash some)

pub from_start : (t : Text) (n : ℕ) → slice_range t 0 n ≡ take n t
from_start t n = grind arith

-- Composing the components of a text yields the text. (RFC 3986, section 5.3 and appendix B)
use Rattle.std.proofs.Common.{◌≡◌, ◌++◌, ◌==◌, ◌∙◌, [], ◌∷◌, None, Option, Some, ap, append_assoc, append-nil, arith, codes, false, inl, inr, length, refl, sym, true, ℕ}
use Rattle.std.specs.Prelude.{IfSome, option_and_then}
use Rattle.std.specs.List.{position_or_len}
use Rattle.std.proofs.lemmas.Bool.{cases_Bool, cases_lt}
use Rattle.std.proofs.lemmas.Bool.Decides.{Decides-eqb, nat_tests}
use Rattle.std.proofs.lemmas.List.{drop_all, take-append-drop}
use Rattle.std.proofs.lemmas.List.Sums.{passes_at_first}
use Rattle.std.proofs.Math.Seq.{drop-cons}
use Rattle.uri_references.specs.declared.components.Component.{Component}
use Rattle.uri_references.specs.declared.components.Component.TheVariants.{Authority, Path, Query, Scheme}
use Rattle.uri_references.specs.Components.{Text, after_mark, around, authority_in, before, components, composed, ends, query_in, rest, scheme_in, scheme_or, up_to_end}

parts : (k : Component) (t : Text) → before k t ++ rest k t ≡ t
parts k t = take-append-drop (position_or_len (ends k) t) t

-- the mark and the text after it are the whole text
after_is : (m : ℕ) (t : Text) → IfSome (after_mark m t) (λ u. m ∷ u ≡ t)
after_is m [] = tt
after_is m (c ∷ cs) = elim (cases_Bool (c == m)) [
  | inl same ↦ let one : c ≡ m = (Decides-eqb c m).0 same in rw same (ap (λ d. d ∷ cs) (sym one))
  | inr other ↦ rw other tt
]

scheme_whole : (t s : Text) (r : Text) (o : Option Text) → s ++ r ≡ t → IfSome o (λ u. 58 ∷ u ≡ r)
    → around [] (scheme_or t s o).component (codes ":") ++ (scheme_or t s o).left ≡ t
scheme_whole t s r None is h = refl
scheme_whole t [] r (Some u) is h = refl
scheme_whole t (c ∷ cs) r (Some u) is h = append_assoc (c ∷ cs) (codes ":") u ∙ ap (λ v. (c ∷ cs) ++ v) h ∙ is

end_whole : (k : Component) (front t : Text) (o : Option Text) → IfSome o (λ u. front ++ u ≡ t)
    → around front (up_to_end k t o).component [] ++ (up_to_end k t o).left ≡ t
end_whole k front t None h = refl
end_whole k front t (Some u) h =
    ap (λ v. v ++ rest k u) (append-nil (front ++ before k u)) ∙ append_assoc front (before k u) (rest k u) ∙ ap (λ v. front ++ v) (parts k u) ∙ h

twice : (t : Text) (o : Option Text) → IfSome o (λ u. 47 ∷ u ≡ t) → IfSome (option_and_then (after_mark 47) o) (λ u. 47 ∷ 47 ∷ u ≡ t)
twice t None h = tt
twice t (Some u) h = further (after_mark 47 u) (after_is 47 u)
  where
    further : (o : Option Text) → IfSome o (λ v. 47 ∷ v ≡ u) → IfSome o (λ v. 47 ∷ 47 ∷ v ≡ t)
    further None g = tt
    further (Some v) g = ap (λ w. 47 ∷ w) g ∙ h

-- the text is empty, or begins with a mark that ends the component
abbrev Begins : Component → Text → Type 0
Begins k [] = Unit {0}
Begins k (c ∷ cs) = ends k c ≡ true

rest_begins : (k : Component) (t : Text) → Begins k (rest k t)
rest_begins k t = elim (cases_lt (position_or_len (ends k) t) (length t)) [
  | inl within ↦ rw (drop-cons t (position_or_len (ends k) t) 0 within) (passes_at_first (ends k) t 0 within)
  | inr past ↦ rw (drop_all (position_or_len (ends k) t) t past) tt
]

query_left : (t : Text) → Begins Path t → Begins Query (query_in t).left
query_left [] h = tt
query_left (c ∷ cs) h = elim (cases_Bool (c == 63)) [
  | inl same ↦ rw same (rest_begins Query cs)
  | inr other ↦ rw other (only_fragment c h other)
]
  where
    only_fragment : (c : ℕ) → ends Path c ≡ true → (c == 63) ≡ false → ends Query c ≡ true
    only_fragment c h other = grind (arith, nat_tests)

fragment_whole : (t : Text) → Begins Query t → around (codes "#") (after_mark 35 t) [] ≡ t
fragment_whole [] h = refl
fragment_whole (c ∷ cs) h =
    let same : (c == 35) ≡ true = grind (arith, nat_tests) in
    let one : c ≡ 35 = (Decides-eqb c 35).0 same in
    rw same (append-nil (35 ∷ cs) ∙ ap (λ d. d ∷ cs) (sym one))

all_joined : (a b p q f ql r al sl t : Text) → f ≡ ql → q ++ ql ≡ r → p ++ r ≡ al → b ++ al ≡ sl → a ++ sl ≡ t → a ++ b ++ p ++ q ++ f ≡ t
all_joined a b p q f ql r al sl t is_f is_q is_p is_b is_a =
    ap (λ x. a ++ b ++ p ++ q ++ x) is_f ∙ append_assoc (a ++ b ++ p) q ql ∙ ap (λ x. a ++ b ++ p ++ x) is_q
    ∙ append_assoc (a ++ b) p r ∙ ap (λ x. a ++ b ++ x) is_p ∙ append_assoc a b al ∙ ap (λ x. a ++ x) is_b ∙ is_a

pub whole : (t : Text) → composed (components t) ≡ t
whole t =
    let s = scheme_in t in
    let a = authority_in s.left in
    let q = query_in (rest Path a.left) in
    all_joined _ _ _ _ _ q.left (rest Path a.left) a.left s.left t
    (fragment_whole q.left (query_left (rest Path a.left) (rest_begins Path a.left)))
    (end_whole Query (codes "?") (rest Path a.left) _ (after_is 63 (rest Path a.left)))
    (parts Path a.left)
    (end_whole Authority (codes "//") s.left _ (twice s.left _ (after_is 47 s.left)))
    (scheme_whole t (before Scheme t) (rest Scheme t) _ (parts Scheme t) (after_is 58 (rest Scheme t)))

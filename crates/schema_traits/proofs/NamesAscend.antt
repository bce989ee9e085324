-- Names in ascending order: those of an object ascend, and so do those of a clone.
use Rattle.std.proofs.Common.{◌≡◌, ◌∙◌, ◌+◌, ◌<◌, ◌∷◌, [], Less, List, String, ap, bytes_eq, cond, drop, false, get_or, length, map, refl, string_bytes, subst, sym, true, ℕ}
use Rattle.std.proofs.Math.ListN.{get_or-map}
use Rattle.std.proofs.lemmas.List.{at_drop_more, length-map}
use Rattle.std.specs.declared.alloc.Global.{Global}
use Rattle.std.specs.Cmp.Lexicographic.{slice_cmp}
use Rattle.std.specs.List.{AllByRecursion, AllZip}
use Rattle.std.specs.List.Sorted.{IsStrictlySortedBy}
use Rattle.std.specs.Ordering.{is_lt, nat_cmp}
use Rattle.std.specs.String.{string_cmp}
use Rattle.theory_definitions.specs.Instance.{Text}
use Rattle.schema_traits.specs.Ascending.{place_from}

abbrev Strings : Type 0
Strings = List (String Global)

below_all : (k : String Global) (ks : Strings) → AllByRecursion (λ l. string_cmp k l ≡ Less) ks → AllByRecursion (λ l. slice_cmp nat_cmp (string_bytes k) l ≡ Less) (map string_bytes ks)
below_all k [] h = tt
below_all k (l ∷ ks) h = (h.0, below_all k ks h.1)

pub texts_ascend : (ks : Strings) → IsStrictlySortedBy string_cmp ks → IsStrictlySortedBy (slice_cmp nat_cmp) (map string_bytes ks)
unfolding IsStrictlySortedBy
texts_ascend [] h = tt
texts_ascend (k ∷ ks) h = (below_all k ks h.0, texts_ascend ks h.1)

-- names whose bytes are read by this function
module _ {A : Type 0} (bytes : A → Text) where
  pub cloned_alike : (xs ys : List A) → AllZip (λ x y. bytes y ≡ bytes x) xs ys → map bytes ys ≡ map bytes xs
  cloned_alike [] [] h = refl
  cloned_alike [] (y ∷ ys) h = absurd h
  cloned_alike (x ∷ xs) [] h = absurd h
  cloned_alike (x ∷ xs) (y ∷ ys) h = ap (λ k. k ∷ map bytes ys) h.0 ∙ ap (λ ks. bytes x ∷ ks) (cloned_alike xs ys h.1)

-- ---- the index of a name

module _ {A : Type 0} (bytes : A → Text) (k : Text) (xs : List A) (p : ℕ) (x : A) (below : p < length xs) (is : x ≡ get_or xs p x) where
  at_place : place_from k p (drop p (map bytes xs)) ≡ place_from k p (bytes x ∷ drop (p + 1) (map bytes xs))
  at_place =
      at_drop_more (λ ns. place_from k p ns) (map bytes xs) p (bytes x) (subst (λ n. p < n) (sym (length-map xs bytes)) below)
      ∙ ap (λ t. place_from k p (t ∷ drop (p + 1) (map bytes xs))) (get_or-map bytes xs p x ∙ ap bytes (sym is))

  pub found_there : bytes_eq (bytes x) k ≡ true → place_from k p (drop p (map bytes xs)) ≡ (p, true)
  found_there e = at_place ∙ ap (λ b. cond b (p, true) (cond (is_lt (slice_cmp nat_cmp k (bytes x))) (p, false) (place_from k (p + 1) (drop (p + 1) (map bytes xs))))) e

  after_it : bytes_eq (bytes x) k ≡ false → place_from k p (drop p (map bytes xs)) ≡ cond (is_lt (slice_cmp nat_cmp k (bytes x))) (p, false) (place_from k (p + 1) (drop (p + 1) (map bytes xs)))
  after_it e = at_place ∙ ap (λ b. cond b (p, true) (cond (is_lt (slice_cmp nat_cmp k (bytes x))) (p, false) (place_from k (p + 1) (drop (p + 1) (map bytes xs))))) e

  pub passed_there : bytes_eq (bytes x) k ≡ false → is_lt (slice_cmp nat_cmp k (bytes x)) ≡ true → place_from k p (drop p (map bytes xs)) ≡ (p, false)
  passed_there e h = after_it e ∙ ap (λ b. cond b (p, false) (place_from k (p + 1) (drop (p + 1) (map bytes xs)))) h

  pub goes_on : bytes_eq (bytes x) k ≡ false → is_lt (slice_cmp nat_cmp k (bytes x)) ≡ false
      → place_from k p (drop p (map bytes xs)) ≡ place_from k (p + 1) (drop (p + 1) (map bytes xs))
  goes_on e h = after_it e ∙ ap (λ b. cond b (p, false) (place_from k (p + 1) (drop (p + 1) (map bytes xs)))) h

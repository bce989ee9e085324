-- Look-ups in a map of validators, by the bytes of its pointers.
use Rattle.std.proofs.Common.{◌≡◌, ℕ, false, cond, List, [], ◌∷◌, map, refl, ap, sym, ◌∙◌, subst}
use Rattle.std.specs.Prelude.{Some, bytes_eq, string_bytes}
use Rattle.std.specs.BTreeMap.{is_at}
use Rattle.std.specs.Cmp.Lexicographic.{slice_cmp}
use Rattle.std.specs.List.Sorted.{IsStrictlySortedBy}
use Rattle.std.specs.Map.{keys_of, lookup}
use Rattle.std.specs.List.{AllByRecursion, IsDistinct}
use Rattle.std.specs.Ordering.{eq_by_cmp, nat_cmp}
use Rattle.std.specs.String.{string_cmp}
use Rattle.std.specs.declared.string.String.{String}
use Rattle.std.proofs.lemmas.Map.Text.{is_eq-slice_cmp}
use Rattle.std.proofs.lemmas.Map.Keys.{IsDistinct-from_sorted}
use Rattle.schema_validator.specs.MapViews.{Entries, EachOnce, at_pointer}

abbrev shown : {A X : Type 0} → List (String A × X) → Entries X
shown es = map (λ e. (string_bytes e.0, e.1)) es

pub found_by : {A X : Type 0} (bs : List ℕ) (es : List (String A × X)) → lookup (is_at (λ k. slice_cmp nat_cmp bs (string_bytes k))) es ≡ at_pointer (shown es) bs
found_by bs [] = refl
found_by bs (e ∷ es) = ap (λ b. cond b (Some e.1) (lookup (is_at (λ k. slice_cmp nat_cmp bs (string_bytes k))) es)) (is_eq-slice_cmp bs (string_bytes e.0))
    ∙ ap (λ o. cond (bytes_eq bs (string_bytes e.0)) (Some e.1) o) (found_by bs es)

pub same_keys : {A X : Type 0} (es : List (String A × X)) → map string_bytes (keys_of es) ≡ keys_of (shown es)
same_keys [] = refl
same_keys (e ∷ es) = ap (λ ks. string_bytes e.0 ∷ ks) (same_keys es)

apart : {A : Type 0} (k : String A) (ks : List (String A)) → AllByRecursion (λ l. eq_by_cmp string_cmp k l ≡ false) ks → AllByRecursion (λ l. bytes_eq (string_bytes k) l ≡ false) (map string_bytes ks)
apart k [] h = tt
apart k (l ∷ ks) h = (sym (is_eq-slice_cmp (string_bytes k) (string_bytes l)) ∙ h.0, apart k ks h.1)

distinct_shown : {A : Type 0} (ks : List (String A)) → IsDistinct (eq_by_cmp string_cmp) ks → IsDistinct bytes_eq (map string_bytes ks)
unfolding IsDistinct
distinct_shown [] h = tt
distinct_shown (k ∷ ks) h = (apart k ks h.0, distinct_shown ks h.1)

pub each_once : {A X : Type 0} (es : List (String A × X)) → IsStrictlySortedBy string_cmp (keys_of es) → EachOnce (shown es)
each_once es h = subst (IsDistinct bytes_eq) (same_keys es) (distinct_shown (keys_of es) (IsDistinct-from_sorted string_cmp (keys_of es) h))

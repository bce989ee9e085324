-- Errors whose keys are found by hash.
use Rattle.std.proofs.Common.{◌≡◌, ℕ, ◌<◌, false, true, List, length, map, ap, sym, ◌∙◌, arith}
use Rattle.std.proofs.lemmas.List.{length-map}
use Rattle.std.proofs.lemmas.Slice.Eq.{bytes_eq-Decides}
use Rattle.std.specs.Prelude.{None, Option, Some, is_some, slice_get, string_bytes}
use Rattle.unfinished_matches.specs.HashIndex.{IsIndexed}
use Rattle.unfinished_search.specs.KeyHashes.{hash_of_key, key_hash}
use Rattle.theory_definitions.specs.Pointer.{pointer_to}
use Rattle.unfinished_search.specs.SharedResults.{has_key, same_key}
use Rattle.schema_reports.specs.declared.reports.ValidationError.{ValidationError}
use Rattle.unfinished_matches.proofs.HashIndexed.{any_found, first_within, found_there, not_found}
use Rattle.theory_definitions.proofs.Products.{both_left, both_right}

-- equal keys have one hash
one_hash : (a b : ValidationError) → same_key a b ≡ true → key_hash b ≡ key_hash a
one_hash a b e =
    let e1 = both_left _ _ e in
    let e2 = both_left _ _ e1 in
    let instance : pointer_to a.place ≡ pointer_to b.place = (bytes_eq-Decides _ _).0 (both_left _ _ e2) in
    let schema : a.schema_path ≡ b.schema_path = (bytes_eq-Decides _ _).0 (both_right _ _ e2) in
    let evaluation : a.evaluation_path ≡ b.evaluation_path = (bytes_eq-Decides _ _).0 (both_right _ _ e1) in
    let text : string_bytes a.text ≡ string_bytes b.text = (bytes_eq-Decides _ _).0 (both_right _ _ e) in
    sym (λ i. hash_of_key (instance i) (schema i) (evaluation i) (text i))

module _ (first : ℕ → Option ℕ) (a : ValidationError) (es : List ValidationError) (is : IsIndexed (map key_hash es) first) where
  pub error_within : (n : ℕ) → first (key_hash a) ≡ Some n → n < length es
  error_within n e = let l = first_within (map key_hash es) (key_hash a) n (sym (is (key_hash a)) ∙ e) in let k = length-map es (λ (x : ValidationError). key_hash x) in omega arith

  pub no_error : first (key_hash a) ≡ None → has_key es a ≡ false
  no_error e = any_found (same_key a) es ∙ ap is_some (not_found key_hash (same_key a) (key_hash a) (one_hash a) es (sym (is (key_hash a)) ∙ e))

  pub error_there : (n : ℕ) (x : ValidationError) → first (key_hash a) ≡ Some n → slice_get es n ≡ Some x → same_key a x ≡ true → has_key es a ≡ true
  error_there n x e at k = any_found (same_key a) es ∙ ap is_some (found_there key_hash (same_key a) (key_hash a) (one_hash a) es n x (sym (is (key_hash a)) ∙ e) at k)

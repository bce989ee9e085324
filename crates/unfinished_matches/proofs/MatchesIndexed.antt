-- Matches that are found by hash.
use Rattle.std.proofs.Common.{◌≡◌, ℕ, ◌<◌, true, List, length, map, ap, ap₂, sym, ◌∙◌, arith}
use Rattle.std.proofs.lemmas.List.{length-map}
use Rattle.std.proofs.lemmas.Slice.Eq.{bytes_eq-Decides}
use Rattle.std.specs.Prelude.{None, Option, Some, option_map, slice_get}
use Rattle.unfinished_matches.specs.HashIndex.{IsIndexed, hash_of_match, match_hash}
use Rattle.theory_definitions.specs.Matching.{Assumed, Pair, assumed, same_pair}
use Rattle.theory_definitions.specs.Runs.{Met}
use Rattle.theory_definitions.specs.Unfinished.{site_of}
use Rattle.unfinished_matches.proofs.HashIndexed.{first_within, found_there, not_found}
use Rattle.theory_definitions.proofs.Products.{both_left, both_right}

-- equal matches have one hash
one_hash : (a b : Pair) → same_pair a b ≡ true → match_hash b ≡ match_hash a
one_hash a b e = sym (ap₂ hash_of_match ((bytes_eq-Decides a.pattern b.pattern).0 (both_left _ _ e)) ((bytes_eq-Decides a.subject b.subject).0 (both_right _ _ e)))

module _ (first : ℕ → Option ℕ) (a : Pair) where
  module _ (ms : List Met) (is : IsIndexed (map (λ m. match_hash m.pair) ms) first) where
    pub site_within : (n : ℕ) → first (match_hash a) ≡ Some n → n < length ms
    site_within n e = let l = first_within (map (λ m. match_hash m.pair) ms) (match_hash a) n (sym (is (match_hash a)) ∙ e) in let k = length-map ms (λ (m : Met). match_hash m.pair) in omega arith

    pub no_site : first (match_hash a) ≡ None → site_of ms a ≡ None
    no_site e = ap (option_map (λ m. m.site)) (not_found (λ m. match_hash m.pair) (λ m. same_pair a m.pair) (match_hash a) (λ m k. one_hash a m.pair k) ms (sym (is (match_hash a)) ∙ e))

    pub site_there : (n : ℕ) (m : Met) → first (match_hash a) ≡ Some n → slice_get ms n ≡ Some m → same_pair a m.pair ≡ true → site_of ms a ≡ Some m.site
    site_there n m e at k = ap (option_map (λ m'. m'.site)) (found_there (λ m'. match_hash m'.pair) (λ m'. same_pair a m'.pair) (match_hash a) (λ m' k'. one_hash a m'.pair k') ms n m (sym (is (match_hash a)) ∙ e) at k)

  module _ (as' : List Assumed) (is : IsIndexed (map (λ x. match_hash x.pair) as') first) where
    pub outcome_within : (n : ℕ) → first (match_hash a) ≡ Some n → n < length as'
    outcome_within n e = let l = first_within (map (λ x. match_hash x.pair) as') (match_hash a) n (sym (is (match_hash a)) ∙ e) in let k = length-map as' (λ (x : Assumed). match_hash x.pair) in omega arith

    pub no_outcome : first (match_hash a) ≡ None → assumed as' a ≡ None
    no_outcome e = ap (option_map (λ x. x.outcome)) (not_found (λ x. match_hash x.pair) (λ x. same_pair a x.pair) (match_hash a) (λ x k. one_hash a x.pair k) as' (sym (is (match_hash a)) ∙ e))

    pub outcome_there : (n : ℕ) (x : Assumed) → first (match_hash a) ≡ Some n → slice_get as' n ≡ Some x → same_pair a x.pair ≡ true → assumed as' a ≡ Some x.outcome
    outcome_there n x e at k = ap (option_map (λ x'. x'.outcome)) (found_there (λ x'. match_hash x'.pair) (λ x'. same_pair a x'.pair) (match_hash a) (λ x' k'. one_hash a x'.pair k') as' n x (sym (is (match_hash a)) ∙ e) at k)

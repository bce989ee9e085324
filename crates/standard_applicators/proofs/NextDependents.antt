-- The children that are evaluated from a number on.
use Rattle.std.proofs.Common.{ℕ, zero, suc, drop, add-zero, ap, arith, length, map, refl, sym, ◌≡◌, ◌∙◌, ◌+◌, List, [], ◌∷◌}
use Rattle.std.proofs.lemmas.List.{drop-map}
use Rattle.theory_definitions.specs.Instance.{Subject, Text}
use Rattle.standard_applicators.specs.Dependents.{dependents_from}

pub length-dependents : (i : ℕ) (ks : List Text) (s : Subject) → length (dependents_from i ks s) ≡ length ks
length-dependents i [] s = refl
length-dependents i (k ∷ ks) s = ap (λ n. suc n) (length-dependents (i + 1) ks s)

one_on : (i n : ℕ) → (i + 1) + n ≡ i + suc n
one_on i n = omega arith

dependents-drop : (n i : ℕ) (ks : List Text) (s : Subject) → drop n (dependents_from i ks s) ≡ dependents_from (i + n) (drop n ks) s
dependents-drop zero i ks s = ap (λ j. dependents_from j ks s) (sym (add-zero i))
dependents-drop (suc n) i [] s = refl
dependents-drop (suc n) i (k ∷ ks) s = dependents-drop n (i + 1) ks s ∙ ap (λ j. dependents_from j (drop n ks) s) (one_on i n)

pub dependents_from_drop : {X : Type 0} (f : X → Text) (n : ℕ) (xs : List X) (s : Subject) → drop n (dependents_from 0 (map f xs) s) ≡ dependents_from n (map f (drop n xs)) s
dependents_from_drop f n xs s = dependents-drop n 0 (map f xs) s ∙ (ap (λ j. dependents_from j (drop n (map f xs)) s) (from_none n) ∙ ap (λ ks. dependents_from n ks s) (drop-map f n xs))
  where
    from_none : (n : ℕ) → 0 + n ≡ n
    from_none n = omega arith

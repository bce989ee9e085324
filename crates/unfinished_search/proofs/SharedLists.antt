-- The errors that all results share.
use Rattle.std.proofs.Common.{◌≡◌, List, [], ◌∷◌, ◌++◌, ap, map, refl}
use Rattle.std.specs.Prelude.{Option}
use Rattle.std.specs.List.{list_all}
use Rattle.unfinished_search.specs.SharedResults.{IsSharedBy, is_empty, or_none, shared_among}
use Rattle.schema_reports.specs.declared.reports.ValidationError.{ValidationError}

pub map_last : {A B : Type 0} (f : A → B) (xs : List A) (x : A) → map f (xs ++ x ∷ []) ≡ map f xs ++ f x ∷ []
map_last f [] x = refl
map_last f (y ∷ xs) x = ap (λ z. f y ∷ z) (map_last f xs x)

not_nil : {A : Type 0} (xs : List A) (x : A) → [] ≡ xs ++ x ∷ [] → ⊥
not_nil [] x e = cc e
not_nil (y ∷ xs) x e = cc e

pub shared_by : (results others : List (List ValidationError)) (last : List ValidationError) (o : Option (List ValidationError)) → results ≡ others ++ last ∷ []
    → o ≡ or_none (shared_among others last) (list_all is_empty (others ++ last ∷ [])) → IsSharedBy results o
shared_by [] others last o e is = absurd (not_nil others last e)
shared_by (r ∷ results) others last o e is = (others, last, e, is)

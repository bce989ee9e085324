-- If the texts of two lists are equal, index by index, then the lists are equal.
use Rattle.std.proofs.Common.{◌≡◌, List, [], ◌∷◌, map, refl, ap, ◌∙◌}
use Rattle.std.specs.List.{AllZip}

pub told_alike : {A B : Type 0} (f : A → B) (xs ys : List A) → AllZip (λ x y. f y ≡ f x) xs ys → map f ys ≡ map f xs
told_alike f [] [] z = refl
told_alike f [] (y ∷ ys) z = absurd z
told_alike f (x ∷ xs) [] z = absurd z
told_alike f (x ∷ xs) (y ∷ ys) z = ap (λ b. b ∷ map f ys) z.0 ∙ ap (λ bs. f x ∷ bs) (told_alike f xs ys z.1)

-- The steps that are shown, as the code holds them.
use Rattle.std.proofs.Common.{◌≡◌, true, List, [], ◌∷◌, refl, Bool, map, ap}
use Rattle.std.specs.Prelude.{cond, false, filter}

pub filtered_map : {A B : Type 0} (p : B → Bool) (f : A → B) (xs : List A) → map f (filter (λ x. p (f x)) xs) ≡ filter p (map f xs)
filtered_map p f [] = refl
filtered_map {A} {B} p f (x ∷ xs) =
    let go : (b : Bool) → map f (cond b (x ∷ filter (λ y. p (f y)) xs) (filter (λ y. p (f y)) xs)) ≡ cond b (f x ∷ filter p (map f xs)) (filter p (map f xs)) = elim [
      | true ↦ ap (λ ys. f x ∷ ys) (filtered_map p f xs)
      | false ↦ filtered_map p f xs
    ] in
    go (p (f x))

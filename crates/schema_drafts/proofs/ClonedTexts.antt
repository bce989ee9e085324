-- Clones of texts have the same bytes.
use Rattle.std.specs.List.{AllZip}
use Rattle.std.specs.Global.{Global}
use Rattle.std.specs.Prelude.{List, String, [], map, refl, string_bytes, ◌∷◌, ◌≡◌}

pub cloned_texts : (xs ys : List (String Global)) → AllZip (λ s t. string_bytes t ≡ string_bytes s) xs ys → map string_bytes ys ≡ map string_bytes xs
cloned_texts [] [] h = refl
cloned_texts [] (y ∷ ys) h = absurd h
cloned_texts (x ∷ xs) [] h = absurd h
cloned_texts (x ∷ xs) (y ∷ ys) h = let rest : map string_bytes ys ≡ map string_bytes xs = cloned_texts xs ys h.1 in let first : string_bytes y ≡ string_bytes x = h.0 in rw (first, rest) refl

-- The first element of a list, and the others.
use Rattle.std.specs.Prelude.{List, None, Option, Some, [], ◌∷◌}

abbrev pub first_of : {A : Type 0} → List A → Option A
first_of [] = None
first_of (x ∷ xs) = Some x

abbrev pub later_of : {A : Type 0} → List A → List A
later_of [] = []
later_of (x ∷ xs) = xs

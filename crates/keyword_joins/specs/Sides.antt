-- Functions of a value of one of two types, depending on its type.
use Rattle.keyword_joins.specs.declared.both.Both.{Both}
use Rattle.keyword_joins.specs.declared.both.Both.TheVariants.{First, Second}

abbrev pub by_side : {A B C : Type 0} → (A → C) → (B → C) → Both A B → C
by_side f g (First x) = f x
by_side f g (Second y) = g y

-- the shape of a value, on the same side
abbrev pub side_of : {A B M N : Type 0} → (A → M) → (B → N) → Both A B → Both M N
side_of f g (First x) = First (f x)
side_of f g (Second y) = Second (g y)

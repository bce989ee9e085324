-- Elements that the code adds to a list, as values of the definitions.
use Rattle.std.specs.Prelude.{List, map, ◌++◌, ◌≡◌}

-- through this view, the new list is the old one followed by these elements
abbrev pub Appends : {A B : Type 0} → (A → B) → List A → List A → List B → Type 0
Appends seen old new added = map seen new ≡ map seen old ++ added

-- The faults of an answer whose first fault is kept.
use Rattle.std.specs.Prelude.{List, [], ◌∷◌}
use Rattle.schema_traits.specs.declared.keyword.Fault.{Fault}

abbrev pub first_kept : List Fault → Fault → List Fault
first_kept [] f = f ∷ []
first_kept (g ∷ gs) f = g ∷ gs

-- The errors that a keyword reports of its own.
use Rattle.std.specs.Prelude.{List, None, [], ◌∷◌, ◌≡◌}
use Rattle.theory_definitions.specs.Instance.{Text}
use Rattle.theory_definitions.specs.Keywords.{Fault, own}

-- one error of this name, at the keyword itself, with any text
abbrev pub IsOneOwn : Text → List Fault → Type 0
IsOneOwn name fs = (text : Text) × (fs ≡ own (record { spot = record { absorbed = None; path = []; below = [] }; name = name; text = text }) ∷ [])

-- no error if the keyword holds, and one of its own if it does not
pub record OneUnless (Holds : Type 0) (name : Text) (fs : List Fault) : Type 0 where
  pub none : Holds → fs ≡ []
  pub one : ¬ Holds → IsOneOwn name fs

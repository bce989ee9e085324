-- The errors that a keyword reports of its own, and those that it passes on.
use Rattle.std.specs.Prelude.{List, [], flat_map, map, ◌∷◌, ◌≡◌}
use Rattle.theory_definitions.specs.Instance.{Text}
use Rattle.theory_definitions.specs.Keywords.{Answers, Fault, Question, own, passed}
use Rattle.keyword_authoring.specs.Ways.{plain}

-- an error with this name and this text, at the keyword itself
abbrev pub own_error : Text → Text → Fault
own_error name text = own (plain name text)

-- no error if the keyword holds, and this one if it does not
pub record OneUnless (Holds : Type 0) (error : Fault) (fs : List Fault) : Type 0 where
  pub none : Holds → fs ≡ []
  pub one : ¬ Holds → fs ≡ error ∷ []

-- the errors of the schemas that are evaluated, in the order of the questions
abbrev pub passed_on : Answers → List Question → List Fault
passed_on answers asked = map passed (flat_map (λ q. (answers q).errors) asked)

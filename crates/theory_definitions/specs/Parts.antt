-- The parts that are supplied to an engine, and its options.
use Rattle.std.specs.Prelude.{Bool, List, Option}
use Rattle.theory_definitions.specs.Instance.{Text}
use Rattle.theory_definitions.specs.Drafts.{Draft}
use Rattle.theory_definitions.specs.Matching.{Matcher}
use Rattle.theory_definitions.specs.Resolving.{Resolver}
use Rattle.theory_definitions.specs.Making.{Table}
use Rattle.theory_definitions.specs.Keywords.{Keywords}

-- The parts that are supplied to an engine, and its options. `S` is the type of a resolver state,
-- `K` of a keyword, and `R` of a run's state.
pub record Parts (S K R : Type 0) : Type 0 where
  pub resolver : Resolver S
  pub table : Table K
  pub matcher : Matcher
  pub keywords : Keywords K R
  -- The options: the draft and the base URI of the root, whether formats are checked, and the
  -- custom vocabularies that are declared.
  pub draft : Option Draft
  pub base : Option Text
  pub formats : Option Bool
  pub declared : List Text

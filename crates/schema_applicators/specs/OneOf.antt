-- `oneOf` accepts an instance if exactly one of its schemas accepts it: none before that schema
-- does, and none after it (Core 2020-12, 10.2.1.3).
use Rattle.std.specs.Prelude.{All, Bool, List, false, true, ◌++◌, ◌∷◌, ◌≡◌}

abbrev pub AllRefuse : List Bool → Type 0
AllRefuse verdicts = All (λ accepts. accepts ≡ false) verdicts

pub record OneAcceptsAlone (verdicts : List Bool) : Type 0 where
  pub before : List Bool
  pub after : List Bool
  pub one : verdicts ≡ before ++ true ∷ after
  pub none_before : AllRefuse before
  pub none_after : AllRefuse after

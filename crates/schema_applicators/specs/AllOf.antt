-- `allOf` accepts an instance if all its schemas accept it (Core 2020-12, 10.2.1.1). The schemas'
-- results come in the schemas' order.
use Rattle.std.specs.Prelude.{All, Bool, List, flat_map, true, ◌≡◌}
use Rattle.theory_definitions.specs.Reports.{Error}

abbrev pub AllAccept : List Bool → Type 0
AllAccept verdicts = All (λ accepts. accepts ≡ true) verdicts

-- its errors are those of the schemas, those of an earlier schema before those of a later one
abbrev pub all_errors : List (List Error) → List Error
all_errors lists = flat_map (λ errors. errors) lists

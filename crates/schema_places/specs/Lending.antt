-- The value of places on demand once the borrow of their numbered form has ended.
use Rattle.std.specs.Prelude.{[], ⊤, ◌≡◌}
use Rattle.std.specs.Borrow.{Fml, MutBor, follows_so}
use mathlib.Core.Option.{none}
use mir.Syntax.{named}
use Rattle.serde_json.specs.declared.value.Value.{Value}
use Rattle.schema_places.specs.contracts.on_demand.PlacesOnDemand.{the_row}

-- once the borrow ends, they are the places of this instance
abbrev pub EndsAs : MutBor Value → Value → Fml
EndsAs s v = follows_so (the_row (record { mir = named 1; lft = [] })) (the_row (record { mir = named 1; lft = [] })) s.ghost_name none (λ _ _. ⊤) (λ n. n ≡ v)

-- The value of a context once the borrow of its numbered places has ended.
use Rattle.std.specs.Prelude.{[], ⊤, ◌≡◌}
use Rattle.std.specs.Borrow.{Fml, MutBor, follows_so}
use mathlib.Core.Option.{none}
use mir.Syntax.{named}
use Rattle.schema_run_context.specs.Progress.{Context}
use Rattle.schema_run_context.specs.contracts.validation.ValidationContext.{the_row}

-- it ends as this one
abbrev pub EndsAs : MutBor Context → Context → Fml
EndsAs s c = follows_so (the_row (record { mir = named 1; lft = [] })) (the_row (record { mir = named 1; lft = [] })) s.ghost_name none (λ _ _. ⊤) (λ n. n ≡ c)

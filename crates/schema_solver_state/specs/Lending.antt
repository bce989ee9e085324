-- What a solver's context is once its numbered places are no longer lent.
use Rattle.std.specs.Prelude.{[], ⊤, ◌≡◌}
use Rattle.std.specs.Borrow.{Fml, MutBor, follows_so}
use mathlib.Core.Option.{none}
use mir.Syntax.{named}
use Rattle.schema_solver_state.specs.Contexts.{Solver}
use Rattle.schema_solver_state.specs.contracts.context.SolverContext.{the_row}

-- it ends as this one
abbrev pub EndsAs : MutBor Solver → Solver → Fml
EndsAs s c = follows_so (the_row (record { mir = named 1; lft = [] })) (the_row (record { mir = named 1; lft = [] })) s.ghost_name none (λ _ _. ⊤) (λ n. n ≡ c)

-- What a call takes of its budget, and what it says if it returns no answer.
use Rattle.std.specs.Prelude.{false, is_some, true, ◌≡◌, ◌↔◌, ◌⊎◌}
use Rattle.schema_run_context.specs.Works.{Budget, IsBoundedInDepth, IsSpent, Spends, down_to}
use Rattle.schema_compiled.specs.declared.stopping.CallLimit.{CallLimit}
use Rattle.schema_compiled.specs.declared.stopping.CallLimit.TheVariants.{Depth, Steps}
use Rattle.schema_validator.specs.declared.call_error.CallError.{CallError}
use Rattle.schema_validator.specs.declared.call_error.CallError.TheVariants as failure

-- a budget is as it was, or as a call left a copy of it, but for the depth: that limit is as before,
-- and was not exceeded yet. No more steps are left than before, and if there is a limit on them, as
-- many as of the copy
pub record StepsAreTaken (old copy new : Budget) : Type 0 where
  pub spends : Spends old new
  pub kept : old.limited ≡ true → Spends old copy → new ≡ down_to old.deepest copy
  pub either : (new ≡ down_to old.deepest copy) ⊎ (new ≡ down_to old.deepest old)

-- a budget is charged with what a call took of a copy of it: no more is left than before, and if
-- there is a limit on steps, as much as of the copy; it is stopped only if the copy is, or it was;
-- and it was too small in depth only if the copy says so
pub record IsCharged (old copy new : Budget) : Type 0 where
  pub spends : Spends old new
  pub kept : old.limited ≡ true → Spends old copy → new.left ≡ copy.left
  pub stopped : (new.stopped ≡ copy.stopped) ⊎ (new.stopped ≡ old.stopped)
  pub too_deep : copy.too_deep ≡ false → new.too_deep ≡ false
  pub told : Spends old copy → copy.too_deep ≡ true → new.too_deep ≡ true

-- the error of a call that returns no answer names the limit on depth exactly if its budget says that
-- it was too small in depth, and then there is such a limit; and otherwise the limit on steps exactly
-- if its budget is stopped, and then there is such a limit and nothing is left. Without a limit, the
-- call is out of memory
pub record NamesLimit (old new : Budget) (e : CallError) : Type 0 where
  pub depth : (e ≡ failure.DepthLimit) ↔ (new.too_deep ≡ true)
  pub bounded : e ≡ failure.DepthLimit → IsBoundedInDepth new
  pub limit : e ≡ failure.WorkLimit → (new.stopped ≡ true) × IsSpent new
  pub memory : e ≡ failure.OutOfMemory → new.stopped ≡ false
  pub unlimited : old.limited ≡ false → is_some old.deepest ≡ false → e ≡ failure.OutOfMemory

-- a budget that was not stopped is still not stopped
abbrev pub StaysUnstopped : Budget → Budget → Type 0
StaysUnstopped old new = old.stopped ≡ false → new.stopped ≡ false

-- the error names this limit
abbrev pub IsNamedBy : CallError → CallLimit → Type 0
IsNamedBy e (Steps limit) = e ≡ failure.WorkLimit
IsNamedBy e (Depth limit) = e ≡ failure.DepthLimit

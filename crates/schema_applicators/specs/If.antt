-- `if` has the verdict and the errors of the branch that its condition picks: `then` if the
-- condition accepts, and `else` if it refuses (Core 2020-12, 10.2.2). A missing branch accepts.
use Rattle.std.specs.Prelude.{Bool, List, None, Option, Some, [], false, true}
use Rattle.theory_definitions.specs.Reports.{Error}

abbrev pub picked : {A : Type 0} → Bool → Option A → Option A → Option A
picked true under_then under_else = under_then
picked false under_then under_else = under_else

abbrev pub branch_accepts : Option Bool → Bool
branch_accepts None = true
branch_accepts (Some accepts) = accepts

abbrev pub branch_errors : Option (List Error) → List Error
branch_errors None = []
branch_errors (Some errors) = errors

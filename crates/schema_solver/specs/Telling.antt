-- A solver's report on a question, and what is tested of it between two questions.
use Rattle.std.specs.Prelude.{Bool, Err, Ok, Result, false, not, true}
use Rattle.schema_solver_state.specs.Saying.{WhatIsSaid}
use Rattle.schema_solver.specs.declared.question.Stopped.{Stopped}
use Rattle.schema_solver.specs.declared.question.Stopped.TheVariants as stopped
use Rattle.schema_solver.specs.declared.told.Answer.{Answer}
use Rattle.schema_solver.specs.declared.told.Answer.TheVariants.{Depth, Leaning, Leans, Limit, No, OutOfMemory, Yes}

-- "invalid", a final "valid", a provisional one, or the reason why there is no verdict
abbrev pub told_by : Answer → Result WhatIsSaid Stopped
told_by No = Ok (record { valid = false; leans = false })
told_by Yes = Ok (record { valid = true; leans = false })
told_by Leaning = Ok (record { valid = true; leans = true })
told_by OutOfMemory = Err stopped.OutOfMemory
told_by Leans = Err stopped.Leans
told_by Limit = Err stopped.Limit
told_by Depth = Err stopped.Depth

-- nothing more is evaluated after it, if each answer has to have this verdict: it has the other
-- verdict, or none
abbrev pub ends_with : Result WhatIsSaid Stopped → Bool → Bool
ends_with (Ok s) true = not s.valid
ends_with (Ok s) false = s.valid
ends_with (Err e) all = true

-- its verdict is provisional
abbrev pub leans_in : Result WhatIsSaid Stopped → Bool
leans_in (Ok s) = s.leans
leans_in (Err e) = false

-- A solver's answer to a question.
use Rattle.std.specs.Prelude.{Bool, false, true, ◌&&◌}
use Rattle.schema_solver_state.specs.declared.said.Answer.{Answer}
use Rattle.schema_solver_state.specs.declared.said.Answer.TheVariants.{Leaning, No, Yes}

-- the verdict, and whether it is provisional: it depends on a pair that counts as valid for now
pub record WhatIsSaid : Type 0 where
  pub valid : Bool
  pub leans : Bool

-- this verdict, as a final one
abbrev pub settled_as : Bool → WhatIsSaid
settled_as valid = record { valid = valid; leans = false }

-- this verdict; a "valid" may be provisional
abbrev pub said_as : Bool → Bool → WhatIsSaid
said_as valid leans = record { valid = valid; leans = valid && leans }

-- "invalid", a final "valid", or a provisional one
abbrev pub said_by : Answer → WhatIsSaid
said_by No = record { valid = false; leans = false }
said_by Yes = record { valid = true; leans = false }
said_by Leaning = record { valid = true; leans = true }

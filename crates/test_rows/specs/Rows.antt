-- When a row is right.
use Rattle.std.specs.Prelude.{Bool, None, Option, Some, codes, false}
use Rattle.serde_json.specs.Data.{Data}
use Rattle.serde_json.specs.Find.{get}
use Rattle.serde_json.specs.View.{view}
use Rattle.test_rows.specs.Cases.{case_in}
use Rattle.test_rows.specs.declared.call.Call.{Call}
use Rattle.test_rows.specs.Wanted.{is_wanted}
use Rattle.test_rows.specs.declared.asking.RowAnswer.{RowAnswer}
use Rattle.test_rows.specs.declared.asking.RowAnswer.TheVariants.{Fault, Given}

-- there is a call, something is wanted, and the result of the call is as wanted
abbrev pub is_answered : Option Call → Option Data → Data → Bool
is_answered None want given = false
is_answered (Some call) None given = false
is_answered (Some call) (Some want) given = is_wanted call given want

-- a row is right with an answer if it is a case, and the answer is the one that its member `want`
-- requires of the case's call
abbrev pub is_right : Data → Data → Bool
is_right row given = is_answered (case_in row) (get (codes "want") row) given

-- the result of a line is right if the row itself has no fault, and is right with the answer
abbrev pub is_right_answer : RowAnswer → Bool
is_right_answer (Fault fault) = false
is_right_answer (Given row given) = is_right (view row) (view given)

-- The calls that the members of a case name.
use Rattle.std.specs.Prelude.{Option, Some, None, bytes_eq, codes, if◌then◌else◌, option_and_then}
use Rattle.serde_json.specs.Data.{Data, member, no_members, object, string}
use Rattle.serde_json.specs.Find.{as_str, get}
use Rattle.theory_definitions.specs.Instance.{Text}
use Rattle.test_rows.specs.declared.call.Call.{Call}
use Rattle.test_rows.specs.declared.call.Call.TheVariants.{Check, Clones, Free, Map, Validator}
use Rattle.test_rows.specs.declared.call.MapQuestion.{MapQuestion}
use Rattle.test_rows.specs.declared.call.MapQuestion.TheVariants as by_map
use Rattle.test_rows.specs.declared.call.Question.{Question}
use Rattle.test_rows.specs.declared.call.Question.TheVariants as by_validator

-- the question of this name, among those that request errors or a verdict
abbrev pub errors_question_named : Text → Option Question
errors_question_named t =
    if bytes_eq t (codes "errors") then Some by_validator.Errors
    else (if bytes_eq t (codes "valid") then Some by_validator.Valid
    else (if bytes_eq t (codes "first") then Some by_validator.First
    else (if bytes_eq t (codes "iter_errors") then Some by_validator.IterErrors
    else (if bytes_eq t (codes "errors_count") then Some by_validator.ErrorsCount else None))))

-- the question of this name, among those that request an evaluation
abbrev pub evaluation_question_named : Text → Option Question
evaluation_question_named t =
    if bytes_eq t (codes "evaluate") then Some by_validator.Evaluate
    else (if bytes_eq t (codes "list") then Some by_validator.List
    else (if bytes_eq t (codes "evaluation_errors") then Some by_validator.EvaluationErrors
    else (if bytes_eq t (codes "list_count") then Some by_validator.ListCount else None)))

-- the question of this name, among those about the result of the build
abbrev pub build_question_named : Text → Option Question
build_question_named t =
    if bytes_eq t (codes "build") then Some by_validator.Build
    else (if bytes_eq t (codes "draft") then Some by_validator.Draft
    else (if bytes_eq t (codes "entries") then Some by_validator.Entries
    else (if bytes_eq t (codes "monotone") then Some by_validator.Monotone else None)))

-- the first of three questions that is present
abbrev pub first_question : Option Question → Option Question → Option Question → Option Question
first_question (Some question) _ _ = Some question
first_question None (Some question) _ = Some question
first_question None None question = question

-- the question to a validator that has this name
abbrev pub question_named : Text → Option Question
question_named t = first_question (errors_question_named t) (evaluation_question_named t) (build_question_named t)

-- the question to a map that has this name
abbrev pub map_question_named : Text → Option MapQuestion
map_question_named t =
    if bytes_eq t (codes "map") then Some by_map.Names
    else (if bytes_eq t (codes "map_errors") then Some by_map.Errors
    else (if bytes_eq t (codes "map_draft") then Some by_map.Draft else None))

-- the call of this name that is not a question
abbrev pub other_call_named : Text → Option Call
other_call_named t =
    if bytes_eq t (codes "clone") then Some (Clones by_validator.Errors)
    else (if bytes_eq t (codes "clone_list") then Some (Clones by_validator.List)
    else (if bytes_eq t (codes "free") then Some Free
    else (if bytes_eq t (codes "check") then Some Check else None)))

-- a question to a validator, or else one to a map, or else another call
abbrev pub call_of : Option Question → Option MapQuestion → Option Call → Option Call
call_of (Some question) _ _ = Some (Validator question)
call_of None (Some question) _ = Some (Map question)
call_of None None call = call

-- the call of this name
abbrev pub call_named : Text → Option Call
call_named t = call_of (question_named t) (map_question_named t) (other_call_named t)

-- the call that the member `call` of a case names
abbrev pub call_in : Data → Option Call
call_in case = option_and_then call_named (option_and_then as_str (get (codes "call") case))

-- the answer to a value that is not a case
abbrev pub no_case : Data
no_case = object (member (codes "fault") (string (codes "no case")) no_members)

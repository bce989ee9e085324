-- The conditions under which a value is read as a case.
use Rattle.std.specs.Prelude.{◌≡◌, ◌⊎◌, Bool, None, Option, Some, bytes_eq, codes, false, if◌then◌else◌, option_and_then, true}
use Rattle.serde_json.specs.Data.{Data}
use Rattle.serde_json.specs.Find.{as_str, get}
use Rattle.theory_definitions.specs.Instance.{Text}
use Rattle.test_rows.specs.Calls.{call_in}
use Rattle.test_rows.specs.declared.call.Call.{Call}
use Rattle.test_rows.specs.declared.call.Call.TheVariants.{Check, Clones, Free, Map, Validator}
use Rattle.test_rows.specs.declared.case.Table.{Table}
use Rattle.test_rows.specs.declared.case.Table.TheVariants.{Bench, Fused, Items, Standard, Strings}

-- the table of this name
abbrev pub table_named : Text → Option Table
table_named t =
    if bytes_eq t (codes "bench") then Some Bench
    else (if bytes_eq t (codes "fused") then Some Fused
    else (if bytes_eq t (codes "items") then Some Items
    else (if bytes_eq t (codes "strings") then Some Strings
    else (if bytes_eq t (codes "standard") then Some Standard else None))))

-- the table that a member names, or that of `bench_parts` if there is no member
abbrev pub table_of : Option Data → Option Table
table_of None = Some Bench
table_of (Some name) = option_and_then table_named (as_str name)

-- the table that the member `table` of a case names
abbrev pub table_in : Data → Option Table
table_in case = table_of (get (codes "table") case)

abbrev pub is_bench : Table → Bool
is_bench Bench = true
is_bench Fused = false
is_bench Items = false
is_bench Strings = false
is_bench Standard = false

-- a table supports a call: only that of `bench_parts` supports clones, and every table supports all
-- other calls
abbrev pub is_asked_by : Call → Table → Bool
is_asked_by (Validator question) table = true
is_asked_by (Clones question) table = is_bench table
is_asked_by (Map question) table = true
is_asked_by Free table = true
is_asked_by Check table = true

-- a call, if the table supports it
abbrev pub call_by : Call → Option Table → Option Call
call_by call None = None
call_by call (Some table) = if is_asked_by call table then Some call else None

-- the call of a case that has a schema, this call and this table
abbrev pub case_of : Option Data → Option Call → Option Table → Option Call
case_of None _ _ = None
case_of (Some schema) None _ = None
case_of (Some schema) (Some call) table = call_by call table

-- the call of a value that is a case, or nothing if it is not one
abbrev pub case_in : Data → Option Call
case_in value = case_of (get (codes "schema") value) (call_in value) (table_in value)

-- the table that is named does not support the call that is named
abbrev pub IsAskedByAnother : Data → Type 0
IsAskedByAnother value =
    (call : Call) × (table : Table) × (call_in value ≡ Some call) × (table_in value ≡ Some table) × (is_asked_by call table ≡ false)

-- why a value is not a case: it has no member `schema` (only an object can have one); its member
-- `call` is missing, is not a text, or names no call; its member `table` is present, but is not a
-- text or names no table; or it requests clones with a table other than that of `bench_parts`
abbrev pub IsNoCase : Data → Type 0
IsNoCase value =
    (get (codes "schema") value ≡ None) ⊎ (call_in value ≡ None) ⊎ (table_in value ≡ None) ⊎ IsAskedByAnother value

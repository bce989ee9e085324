-- The value at a place, before and after it is read.
use Rattle.std.specs.Prelude.{Bool, Option, Some, option_map, unwrap_or, ◌≡◌}
use Rattle.std.proofs.Common.{Bor}
use Rattle.serde_json.specs.Data.{Data, null}
use Rattle.serde_json.specs.Find.{as_bool}
use Rattle.serde_json.specs.View.{view}
use Rattle.serde_json.specs.declared.value.Value.{Value}
use Rattle.schema_node_table.specs.NodeViews.{boolean_plan, plan_of}
use Rattle.schema_node_table.specs.declared.node.NodeForm.{NodeForm}
use Rattle.schema_keys.specs.declared.values.Reading.{Reading}
use Rattle.schema_keys.specs.declared.values.Reading.TheVariants.{Read, Unread}

-- the value that was read is the one at the place
abbrev pub IsReading : Option Data → Reading → Type 0
IsReading value (Read o) = option_map (λ v. view v.now) o ≡ value
IsReading value Unread = Unit {0}

-- the value that was read; a missing value counts as null
abbrev pub read_value : Option (Bor Value) → Data
read_value o = unwrap_or (option_map (λ v. view v.now) o) null

-- the value that was read is a boolean, and this is its form
abbrev pub IsBooleanForm : {K : Type 0} → Option (Bor Value) → NodeForm K → Type 0
IsBooleanForm value form = (b : Bool) × (as_bool (read_value value) ≡ Some b) × (plan_of form ≡ boolean_plan b)

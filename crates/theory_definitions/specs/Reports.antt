-- An error says where the instance and the schema disagree. A unit reports the result of evaluating
-- one place of the schema at one place of the instance, with the units inside it. (Core 2020-12,
-- 12.3 and 12.4)
use Rattle.std.specs.Prelude.{Bool, List, Option, [], bytes_eq, false, if◌then◌else◌, true, ◌&&◌, ◌∷◌}
use Rattle.serde_json.specs.Data.{Data}
use Rattle.theory_definitions.specs.Instance.{Place, Step, Text}
use Rattle.theory_definitions.specs.Pointer.{pointer_to}

-- An error. It concerns the instance at its place.
pub record Error : Type 0 where
  pub place : Place
  pub schema_path : Text
  pub evaluation_path : Text
  pub absolute : Option Text
  pub name : Text
  pub text : Text

-- The place of an error as a pointer (RFC 6901).
abbrev pub instance_path : Error → Text
instance_path e = pointer_to e.place

-- Two errors have the same instance path, schema path, evaluation path and text.
abbrev pub same_error : Error → Error → Bool
same_error a b = bytes_eq (instance_path a) (instance_path b) && bytes_eq a.schema_path b.schema_path && bytes_eq a.evaluation_path b.evaluation_path && bytes_eq a.text b.text

-- An error that contains its instance, and so is independent of any run.
pub record OwnedError : Type 0 where
  pub instance : Data
  pub instance_path : Text
  pub schema_path : Text
  pub evaluation_path : Text
  pub absolute : Option Text
  pub name : Text
  pub text : Text

-- The error with its text if texts are reported, and with an empty text if not.
abbrev pub told_error : Bool → OwnedError → OwnedError
told_error told e = record e { text = if told then e.text else [] }

-- The name and the text of an error that a unit contains.
pub record Described : Type 0 where
  pub name : Text
  pub text : Text

-- The content of a unit, apart from the units inside it. The instance location is a pointer (RFC
-- 6901).
pub record Report : Type 0 where
  pub valid : Bool
  pub instance_location : Text
  pub evaluation_path : Text
  pub schema_path : Text
  pub absolute : Option Text
  pub annotations : Option Data
  pub errors : List Described

-- A unit: its report and the units inside it.
mutual
  pub data Unit_ : Type 0 where
    unit : Report → Units → Unit_

  pub data Units : Type 0 where
    no_units : Units
    a_unit : Unit_ → Units → Units

-- The report of a unit.
abbrev pub report_of : Unit_ → Report
report_of (unit r us) = r

-- The units inside a unit.
abbrev pub children_of : Unit_ → Units
children_of (unit r us) = us

-- The units of a list.
abbrev pub units_of : List Unit_ → Units
units_of [] = no_units
units_of (u ∷ us) = a_unit u (units_of us)

-- No member or item is spanned.
abbrev pub spans_nothing : Step → Bool
spans_nothing step = false

-- A verdict, a list of errors, and which members and items below the place are spanned, that is,
-- evaluated there by keywords at this place. (Core 2020-12, 11)
pub record Outcome : Type 0 where
  pub verdict : Bool
  pub errors : List Error
  pub spans : Step → Bool

-- Valid, without errors.
abbrev pub accepted : Outcome
accepted = record { verdict = true; errors = []; spans = spans_nothing }

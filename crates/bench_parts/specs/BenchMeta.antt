-- What the meta validators for tests refuse in a document: the first fault, with members in the
-- order of their names, items in order, and a member before the values inside it. If texts are not
-- covered, each text counts as empty. (Core 2020-12, 8.1.1 and 4.3.1; Validation 2020-12, 6.3.2)
use Rattle.std.specs.Prelude.{Bool, None, Option, Some, [], bytes_eq, codes, false, if◌then◌else◌, is_some, not, true, ℕ, ◌&&◌, ◌++◌, ◌+◌, ◌≡◌, ◌∷◌}
use Rattle.serde_json.specs.Data.{Data, Items, Members, array, boolean, item, member, no_items, no_members, null, number, object, string}
use Rattle.serde_json.specs.Find.{as_array, as_number}
use Rattle.serde_json.specs.Written.{compact_text}
use Rattle.theory_definitions.specs.Instance.{Place, Text, to_item, to_member}
use Rattle.theory_definitions.specs.Drafts.{Draft, draft_2020_12, draft_unknown}
use Rattle.theory_definitions.specs.Reports.{Error}
use Rattle.schema_reports.specs.ReportViews.{spoken}

-- the types that the error's text names
abbrev pub number_type : Text
number_type = codes "type \"number\""

abbrev pub schema_types : Text
schema_types = codes "types \"boolean\", \"object\""

abbrev pub type_text : Data → Text → Text
type_text v types = compact_text v ++ codes " is not of " ++ types

-- the error for a value of another type, at its place
abbrev pub mistyped : Bool → Place → Data → Text → Error
mistyped texts place v types = record { place = place; schema_path = codes "/type"; evaluation_path = codes "/type"; absolute = None; name = codes "type"; text = spoken texts (type_text v types) }

-- an unknown draft counts as 2020-12
abbrev pub is_2020_12 : Draft → Bool
is_2020_12 draft_2020_12 = true
is_2020_12 draft_unknown = true
is_2020_12 _ = false

-- a `minLength` that is not a number
abbrev pub is_no_length : Text → Data → Bool
is_no_length k v = bytes_eq k (codes "minLength") && not (is_some (as_number v))

-- an `items` that is an array, in 2020-12
abbrev pub is_list_of_items : Draft → Text → Data → Bool
is_list_of_items d k v = bytes_eq k (codes "items") && is_2020_12 d && is_some (as_array v)

-- the fault of a member itself, with this name and value
abbrev pub member_fault : Bool → Draft → Place → Text → Data → Option Error
member_fault texts d place k v = if is_no_length k v then Some (mistyped texts place v number_type)
    else (if is_list_of_items d k v then Some (mistyped texts place v schema_types) else None)

-- the first of two faults that is present
abbrev pub earlier : Option Error → Option Error → Option Error
earlier None o = o
earlier (Some e) o = Some e

-- the first fault inside the value at a place
abbrev mutual
  pub fault_in : Bool → Draft → Place → Data → Option Error
  fault_in texts d place null = None
  fault_in texts d place (boolean b) = None
  fault_in texts d place (number n) = None
  fault_in texts d place (string s) = None
  fault_in texts d place (array ds) = fault_in_items texts d place 0 ds
  fault_in texts d place (object ms) = fault_in_members texts d place ms

  pub fault_in_items : Bool → Draft → Place → ℕ → Items → Option Error
  fault_in_items texts d place n no_items = None
  fault_in_items texts d place n (item v ds) = earlier (fault_in texts d (place ++ to_item n ∷ []) v) (fault_in_items texts d place (n + 1) ds)

  pub fault_in_members : Bool → Draft → Place → Members → Option Error
  fault_in_members texts d place no_members = None
  fault_in_members texts d place (member k v ms) = earlier (member_fault texts d (place ++ to_member k ∷ []) k v)
      (earlier (fault_in texts d (place ++ to_member k ∷ []) v) (fault_in_members texts d place ms))

-- there is no fault inside a value, whatever the draft and the place
abbrev pub HasNoFaultInside : Data → Type 0
HasNoFaultInside v = (texts : Bool) (d : Draft) (place : Place) → fault_in texts d place v ≡ None

-- a member itself has no fault, whatever the draft and the place
abbrev pub HasNoFaultItself : Text → Data → Type 0
HasNoFaultItself k v = (texts : Bool) (d : Draft) (place : Place) → member_fault texts d place k v ≡ None

-- whether a value is an object or a boolean
abbrev pub is_schema : Data → Bool
is_schema (object ms) = true
is_schema (boolean b) = true
is_schema (null) = false
is_schema (number n) = false
is_schema (string t) = false
is_schema (array ds) = false

-- a document that is neither an object nor a boolean is refused as a whole
abbrev pub document_fault : Bool → Draft → Data → Option Error
document_fault texts d v = if is_schema v then fault_in texts d [] v else Some (mistyped texts [] v schema_types)

-- The types that a value may have. (Core 2020-12, 4.2.1; Validation 2020-12, 6.1.1)
use Rattle.std.specs.Prelude.{Bool, List, None, Option, Some, [], bytes_eq, true, false, if◌then◌else◌, ◌||◌, ◌∷◌, codes, is_some, option_and_then}
use Rattle.std.specs.List.{list_any}
use Rattle.serde_json.specs.Data.{Data, Items, item, no_items}
use Rattle.serde_json.specs.Find.{as_null, as_bool, as_number, as_str, as_array, as_object, as_i64, as_u64}
use Rattle.theory_definitions.specs.Instance.{Text, Subject, a_value, a_name}
use Rattle.standard_basics.specs.declared.type_names.TypeName.{TypeName}
use Rattle.standard_basics.specs.declared.type_names.TypeName.TheVariants as type

abbrev pub type_name : TypeName → Text
type_name type.Null = codes "null"
type_name type.Boolean = codes "boolean"
type_name type.Integer = codes "integer"
type_name type.Number = codes "number"
type_name type.Text = codes "string"
type_name type.Array = codes "array"
type_name type.Object = codes "object"

-- whether a subject has the type: an integer is a number without a fraction that fits in 64 bits,
-- and a name is a text
abbrev pub fits : TypeName → Subject → Bool
fits type.Null (a_value d) = is_some (as_null d)
fits type.Boolean (a_value d) = is_some (as_bool d)
fits type.Integer (a_value d) = is_some (option_and_then as_i64 (as_number d)) || is_some (option_and_then as_u64 (as_number d))
fits type.Number (a_value d) = is_some (as_number d)
fits type.Text (a_value d) = is_some (as_str d)
fits type.Array (a_value d) = is_some (as_array d)
fits type.Object (a_value d) = is_some (as_object d)
fits type.Text (a_name k) = true
fits type.Null (a_name k) = false
fits type.Boolean (a_name k) = false
fits type.Integer (a_name k) = false
fits type.Number (a_name k) = false
fits type.Array (a_name k) = false
fits type.Object (a_name k) = false

-- whether the subject has one of the types
abbrev pub fits_one : List TypeName → Subject → Bool
fits_one ts s = list_any (λ t. fits t s) ts

-- the type with this name
abbrev pub type_named : Text → Option TypeName
type_named t =
    if bytes_eq t (codes "null") then Some type.Null
    else (if bytes_eq t (codes "boolean") then Some type.Boolean
    else (if bytes_eq t (codes "integer") then Some type.Integer
    else (if bytes_eq t (codes "number") then Some type.Number
    else (if bytes_eq t (codes "string") then Some type.Text
    else (if bytes_eq t (codes "array") then Some type.Array
    else (if bytes_eq t (codes "object") then Some type.Object else None))))))

-- an element and the list after it, if both are present
abbrev pub both : {A : Type 0} → Option A → Option (List A) → Option (List A)
both None rest = None
both (Some a) None = None
both (Some a) (Some rest) = Some (a ∷ rest)

abbrev pub type_of : Data → Option TypeName
type_of d = option_and_then type_named (as_str d)

-- the types that the values name, if each of them names one
abbrev pub types_of : Items → Option (List TypeName)
types_of no_items = Some []
types_of (item d ds) = both (type_of d) (types_of ds)

-- The subschemas that are found in a schema, each with its path; and the keywords that hold them.
use Rattle.std.specs.Prelude.{Bool, List, None, Option, Some, [], codes, false, true, ◌||◌, ◌∷◌}
use Rattle.std.specs.List.{list_any}
use Rattle.std.specs.Str.{bytes_eq}
use Rattle.serde_json.specs.Data.{Data, Members, member, no_members}
use Rattle.theory_definitions.specs.Instance.{Place, Text, subject_at}
use Rattle.standard_subschemas.specs.declared.rules.Rule.{Rule}
use Rattle.standard_subschemas.specs.declared.rules.Rule.TheVariants.{Narrow, Standard}
use Rattle.standard_subschemas.specs.StandardNames as standard
use Rattle.standard_subschemas.specs.SubschemaRules.{data_of, is_schema}

-- a path inside a schema, and the value there
pub record Found : Type 0 where
  pub path : Place
  pub schema : Option Data

abbrev pub found_at : Data → Place → Found
found_at d p = record { path = p; schema = data_of (subject_at d p) }

-- the list of what was found, if the condition holds
abbrev pub found_if : Bool → Found → List Found
found_if true f = f ∷ []
found_if false f = []

-- what was found, if it is a schema
abbrev pub schema_if : Found → List Found
schema_if f = found_if (elim f.schema [ None ↦ false | Some d ↦ is_schema d ]) f

-- all keywords that may hold subschemas, in any draft
abbrev pub schema_names : Rule → List Text
schema_names Narrow = codes "$defs" ∷ codes "definitions" ∷ codes "properties" ∷ codes "allOf" ∷ codes "anyOf" ∷ codes "oneOf"
    ∷ codes "prefixItems"
    ∷ codes "not" ∷ codes "if" ∷ codes "then" ∷ codes "else" ∷ codes "items" ∷ codes "propertyNames" ∷ []
schema_names Standard = standard.schema_names

-- whether a keyword may hold subschemas
abbrev pub names_schemas : Rule → Text → Bool
names_schemas rule t = list_any (bytes_eq t) (schema_names rule)

-- whether one of these members may hold subschemas
abbrev pub any_names_schemas : Rule → Members → Bool
any_names_schemas rule no_members = false
any_names_schemas rule (member l d ms) = names_schemas rule l || any_names_schemas rule ms

-- The aims of a walk through a document: identifiers, or names.
use Rattle.std.specs.Prelude.{Bool, List, [], false, is_some, true, ◌||◌, ◌∷◌}
use Rattle.serde_json.specs.Data.{Data}
use Rattle.theory_definitions.specs.Drafts.{Draft}
use Rattle.standard_subschemas.specs.declared.rules.Rule.{Rule}
use Rattle.standard_subschemas.specs.SubschemaRules.{dynamic_name, identifier, plain_name}
use Rattle.standard_resolver.specs.DocumentResources.{Visited}

-- whether a schema has an identifier (if the walk goes everywhere) or a name
abbrev pub speaks : Rule → Bool → Draft → Data → Bool
speaks rule true draft schema = is_some (identifier draft schema)
speaks rule false draft schema = is_some (plain_name rule draft schema) || is_some (dynamic_name rule draft schema)

abbrev pub speaking : Rule → Bool → Visited → Bool
speaking rule everywhere v = speaks rule everywhere v.dialect.draft v.schema

abbrev pub kept_if : Bool → Visited → List Visited
kept_if true v = v ∷ []
kept_if false v = []

-- the schema itself, if it has what the walk looks for
abbrev pub kept : Rule → Bool → Visited → List Visited
kept rule everywhere v = kept_if (speaking rule everywhere v) v

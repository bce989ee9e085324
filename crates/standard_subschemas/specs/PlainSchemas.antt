-- Schemas that do not concern the resolver.
use Rattle.std.specs.Prelude.{Bool, List, None, [], codes, false, ◌||◌, ◌≡◌, ◌∷◌}
use Rattle.std.specs.List.{list_any}
use Rattle.std.specs.Str.{bytes_eq}
use Rattle.serde_json.specs.Data.{Data, Members, member, no_members}
use Rattle.theory_definitions.specs.Instance.{Text}
use Rattle.theory_definitions.specs.Drafts.{Draft}
use Rattle.standard_subschemas.specs.declared.rules.Rule.{Rule}
use Rattle.standard_subschemas.specs.SubschemaRules.{dynamic_name, identifier, plain_name, subschemas}
use Rattle.standard_subschemas.specs.FoundSchemas.{names_schemas}

-- the keywords, other than those that hold subschemas, that the resolver reads
abbrev pub names_of_schema : List Text
names_of_schema = codes "$ref" ∷ codes "$id" ∷ codes "id" ∷ codes "$anchor" ∷ codes "$dynamicAnchor" ∷ []

-- whether the resolver reads the member of this name
abbrev pub speaks : Rule → Text → Bool
speaks rule t = list_any (bytes_eq t) names_of_schema || names_schemas rule t

-- whether the resolver reads one of these members
abbrev pub any_speaks : Rule → Members → Bool
any_speaks rule no_members = false
any_speaks rule (member l d ms) = speaks rule l || any_speaks rule ms

-- in every draft the schema has no subschemas, no identifier and no name
pub record IsPlain (rule : Rule) (d : Data) : Type 0 where
  pub no_subschemas : (draft : Draft) → subschemas rule draft d ≡ []
  pub no_identifier : (draft : Draft) → identifier draft d ≡ None
  pub no_name : (draft : Draft) → plain_name rule draft d ≡ None
  pub no_dynamic_name : (draft : Draft) → dynamic_name rule draft d ≡ None

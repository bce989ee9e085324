-- A subschema lies one or two steps below its schema, so the steps of a path decide whether it
-- leads to one, without a list of all subschemas. (Core 2020-12, sections 8.2 and 9.2; RFC 6901,
-- section 4)
use Rattle.std.specs.Prelude.{Bool, List, None, Option, Some, [], false, flat_map, map, ℕ, ◌&&◌, ◌++◌, ◌+◌, ◌||◌, ◌∷◌}
use Rattle.std.specs.List.{list_any}
use Rattle.std.proofs.Common.{Bor}
use Rattle.serde_json.specs.Data.{Data, Items, Members, array, item, member, no_items, no_members, object}
use Rattle.serde_json.specs.Find.{get}
use Rattle.theory_definitions.specs.Drafts.{Draft}
use Rattle.theory_definitions.specs.Instance.{Place, Step, Text, same_place, same_step, to_item, to_member}
use Rattle.schema_traits.specs.SchemaViews.{schema_step_of}
use Rattle.schema_traits.specs.declared.schema_place.SchemaStep.{SchemaStep}
use Rattle.standard_subschemas.specs.declared.rules.Rule.{Rule}
use Rattle.standard_subschemas.specs.SubschemaRules.{below_list, below_object, below_value, is_schema, names_of_lists, names_of_objects}
use Rattle.standard_subschemas.specs.SubschemaRules.{names_of_values}

-- the subschemas two steps below a schema
abbrev pub pairs_below : Rule → Draft → Data → List Place
pairs_below rule draft d = flat_map (λ k. below_object k (get k d)) (names_of_objects rule draft)
    ++ flat_map (λ k. below_list k (get k d)) (names_of_lists rule draft)

-- the subschemas one step below a schema
abbrev pub singles_below : Rule → Draft → Data → List Place
singles_below rule draft d = flat_map (λ k. below_value k (get k d)) (names_of_values rule draft)

-- whether a step leads to a schema among the members
abbrev pub member_among : Step → Members → Bool
member_among s no_members = false
member_among s (member l d ms) = (is_schema d && same_step s (to_member l)) || member_among s ms

-- whether a step leads to a schema among the items, of which the first has the index i
abbrev pub item_among : Step → ℕ → Items → Bool
item_among s i no_items = false
item_among s i (item d ds) = (is_schema d && same_step s (to_item i)) || item_among s (i + 1) ds

abbrev pub leads_to_member : Step → Data → Bool
leads_to_member s (object ms) = member_among s ms
leads_to_member s _ = false

abbrev pub leads_to_item : Step → Data → Bool
leads_to_item s (array ds) = item_among s 0 ds
leads_to_item s _ = false

-- whether there is a value and it is a schema
abbrev pub schema_found : Option Data → Bool
schema_found None = false
schema_found (Some d) = is_schema d

-- whether two steps lead to one of these places
abbrev pub pair_among : SchemaStep → SchemaStep → List Place → Bool
pair_among first second places = list_any (same_place (schema_step_of first ∷ schema_step_of second ∷ [])) places

-- whether one step leads to one of these places
abbrev pub step_among : SchemaStep → List Place → Bool
step_among step places = list_any (same_place (schema_step_of step ∷ [])) places

-- the places below the members of these names
abbrev pub below_each : (Text → Option Data → List Place) → List (Bor Text) → Data → List Place
below_each below keywords schema = flat_map (λ k. below k (get k schema)) (map (λ k. k.now) keywords)

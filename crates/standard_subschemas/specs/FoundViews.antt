-- The subschemas that the code has found, as values of the definitions.
use Rattle.std.specs.Prelude.{List, Option, Some, [], ◌∷◌, ◌++◌, ◌≡◌, flat_map, map}
use Rattle.serde_json.specs.Data.{Data}
use Rattle.serde_json.specs.Find.{get}
use Rattle.serde_json.specs.View.{view}
use Rattle.theory_definitions.specs.Instance.{Place, Text, to_item, to_member}
use Rattle.theory_definitions.specs.Drafts.{SchemaPlace, at_path}
use Rattle.schema_traits.specs.ResolverViews.{Placed}
use Rattle.standard_subschemas.specs.declared.below.FoundSchema.{FoundSchema}
use Rattle.standard_subschemas.specs.declared.below.Inside.{Inside}
use Rattle.standard_subschemas.specs.declared.below.Inside.TheVariants.{Item, Member, Nothing}
use Rattle.standard_subschemas.specs.declared.below.Lying.{Lying}
use Rattle.standard_subschemas.specs.declared.below.Lying.TheVariants.{AsValue, InList, InObject}
use Rattle.standard_subschemas.specs.SubschemaRules.{below_list, below_object, below_value}
use Rattle.standard_subschemas.specs.FoundSchemas.{Found, found_at}

abbrev pub steps_inside : Inside → Place
steps_inside Nothing = []
steps_inside (Member name) = to_member name.now ∷ []
steps_inside (Item i) = to_item i ∷ []

abbrev pub path_of : FoundSchema → Place
path_of f = to_member f.keyword.now ∷ steps_inside f.inside

abbrev pub found_of : FoundSchema → Found
found_of f = record { path = path_of f; schema = Some (view f.schema.now) }

-- a subschema of the schema at a place, with its own place
abbrev pub placed_at : SchemaPlace → Found → Placed
placed_at p f = record { place = at_path p f.path; value = f.schema }

-- the paths of the subschemas under a keyword, by their position there
abbrev pub below : Lying → Text → Option Data → List Place
below InObject k o = below_object k o
below InList k o = below_list k o
below AsValue k o = below_value k o

-- the new list is the old one, followed by the values at these paths of a schema
abbrev pub AddsPaths : Data → List Place → List FoundSchema → List FoundSchema → Type 0
AddsPaths schema paths old new = map found_of new ≡ map found_of old ++ map (found_at schema) paths

-- the new list is the old one, followed by the subschemas under a keyword
abbrev pub AddsBelow : Data → (Text → Option Data → List Place) → Text → List FoundSchema → List FoundSchema → Type 0
AddsBelow schema lies k old new = AddsPaths schema (lies k (get k schema)) old new

-- the new list is the old one, followed by the subschemas under each of these keywords
abbrev pub AddsBelowEach : Data → (Text → Option Data → List Place) → List Text → List FoundSchema → List FoundSchema → Type 0
AddsBelowEach schema lies ks old new = AddsPaths schema (flat_map (λ k. lies k (get k schema)) ks) old new

-- The lists of subschemas that the code makes, by what it is given.
use Rattle.std.proofs.Common.{Bor}
use Rattle.std.specs.BTreeMap.{BTreeMap}
use Rattle.std.specs.Prelude.{IfOk, List, OnOk, Option, Result, String, map, ◌≡◌}
use Rattle.std.specs.declared.alloc.Global.{Global}
use Rattle.std.specs.declared.vec.Vec.{Vec}
use Rattle.serde_json.specs.Data.{Data, object}
use Rattle.serde_json.specs.declared.value.Value.{Value}
use Rattle.theory_definitions.specs.Instance.{Place, Text}
use Rattle.theory_definitions.specs.Drafts.{at_path}
use Rattle.schema_drafts.specs.KeywordViews.{draft_of}
use Rattle.schema_drafts.specs.declared.keywords.drafts.Draft.{Draft}
use Rattle.schema_traits.specs.Readings.{fields}
use Rattle.schema_traits.specs.ResolverViews.{place_of, placed_of}
use Rattle.schema_traits.specs.declared.resolver.PlacedSchema.{PlacedSchema}
use Rattle.schema_traits.specs.declared.schema_place.SchemaPlace.{SchemaPlace}
use Rattle.standard_subschemas.specs.FoundSchemas.{Found, found_at}
use Rattle.standard_subschemas.specs.FoundViews.{AddsBelow, AddsBelowEach, found_of, placed_at}
use Rattle.standard_subschemas.specs.SubschemaRules.{subschemas}
use Rattle.standard_subschemas.specs.declared.below.FoundSchema.{FoundSchema}
use Rattle.standard_subschemas.specs.declared.rules.Rule.{Rule}

-- if the result is `Ok`, the subschemas of an object under a keyword were added
abbrev pub FindsBelow : {A E : Type 0} → Result A E → Vec FoundSchema Global → Vec FoundSchema Global → BTreeMap (String Global) Value → (Text → Option Data → List Place) → Text → Type 0
FindsBelow result old new members lies k = OnOk result (AddsBelow (object (fields members)) lies k old.items new.items)

-- if the result is `Ok`, the subschemas of an object under each of these keywords were added
abbrev pub FindsBelowEach : {A E : Type 0} → Result A E → Vec FoundSchema Global → Vec FoundSchema Global → BTreeMap (String Global) Value → (Text → Option Data → List Place) → List (Bor Text) → Type 0
FindsBelowEach result old new members lies ks = OnOk result (AddsBelowEach (object (fields members)) lies (map (λ k. k.now) ks) old.items new.items)

-- the subschemas of a schema, each with its path
abbrev pub subschemas_in : Rule → Draft → Data → List Found
subschemas_in rule draft schema = map (found_at schema) (subschemas rule (draft_of draft) schema)

-- if the result is `Ok`, it lists what is meant to be found
abbrev pub ListsFound : {E : Type 0} → Result (Vec FoundSchema Global) E → List Found → Type 0
ListsFound result meant = IfOk result (λ found. map found_of found.items ≡ meant)

-- if the result is `Ok`, it lists the places at the ends of these paths from a place
abbrev pub ListsPlaces : {E : Type 0} → Result (Vec SchemaPlace Global) E → SchemaPlace → List Place → Type 0
ListsPlaces result place paths = IfOk result (λ places. map place_of places.items ≡ map (at_path (place_of place)) paths)

-- if the result is `Ok`, it lists these subschemas of the schema at a place, with their own places
abbrev pub ListsPlaced : {E : Type 0} → Result (Vec PlacedSchema Global) E → SchemaPlace → List Found → Type 0
ListsPlaced result place found = IfOk result (λ ps. map placed_of ps.items ≡ map (placed_at (place_of place)) found)

-- these names are the ones that are meant
abbrev pub AreNames : List (Bor Text) → List Text → Type 0
AreNames names meant = map (λ k. k.now) names ≡ meant

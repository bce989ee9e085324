-- What the code's resolver answers, in terms of the definitions.
use Rattle.std.specs.List.{AllByRecursion}
use Rattle.std.specs.Prelude.{◌≡◌, ◌∷◌, ℕ, Option, Some, Result, Err, false, option_map, string_bytes, suc, unwrap_or, zero}
use Rattle.std.proofs.Common.{Bor}
use Rattle.serde_json.specs.Data.{Data, null}
use Rattle.serde_json.specs.View.{view}
use Rattle.serde_json.specs.Written.{has_float}
use Rattle.serde_json.specs.declared.value.Value.{Value}
use Rattle.theory_definitions.specs.Instance.{Text, Place, Step, subject_at, a_value}
use Rattle.theory_definitions.specs.Drafts as spec
use Rattle.theory_definitions.specs.Resolving.{Found, Entrance, Resolver}
use Rattle.schema_drafts.specs.KeywordViews.{draft_of}
use Rattle.schema_traits.specs.declared.schema_place.SchemaPlace.{SchemaPlace}
use Rattle.schema_traits.specs.declared.resolver.PlacedSchema.{PlacedSchema}
use Rattle.schema_traits.specs.declared.resolver.Target.{Target}
use Rattle.schema_traits.specs.declared.resolver.LookupError.{LookupError}
use Rattle.schema_traits.specs.declared.resolver.LookupError.TheVariants.{Refused, OutOfMemory}

abbrev pub place_of : SchemaPlace → spec.SchemaPlace
place_of p = record { document = p.document; path = p.path }

-- this is the value that the resolver has at the place, or nothing if it has none
abbrev pub IsReadAt : {S : Type 0} → Resolver S → SchemaPlace → Option (Bor Value) → Type 0
IsReadAt r place o = option_map (λ v. view v.now) o ≡ r.value (place_of place)

-- the place of a subschema, and the value at that place
pub record Placed : Type 0 where
  pub place : spec.SchemaPlace
  pub value : Option Data

-- a place, with the value that the resolver has there
abbrev pub placed_in : {S : Type 0} → Resolver S → spec.SchemaPlace → Placed
placed_in r p = record { place = p; value = r.value p }

abbrev pub placed_of : PlacedSchema → Placed
placed_of p = record { place = place_of p.place; value = option_map (λ v. view v.now) p.value }

abbrev pub entrance_of : {S P : Type 0} → (S → P) → S × SchemaPlace → Entrance P
entrance_of point e = record { place = place_of e.1; state = point e.0 }

abbrev pub found_of : {S P : Type 0} → (S → P) → Target S → Found P
found_of point t = record { place = place_of t.place; state = point t.state; draft = draft_of t.draft }

-- a refusal has the text of the definitions; nothing is said of a lack of memory
abbrev pub Refuses : {A : Type 0} → Result A Text → LookupError → Type 0
Refuses r (Refused t) = r ≡ Err (string_bytes t)
Refuses r OutOfMemory = Unit {0}

-- a refusal of a value has the text of the definitions if the value holds no fraction
abbrev pub RefusesValue : {A : Type 0} → Data → Result A Text → LookupError → Type 0
RefusesValue value r (Refused t) = (text : Text) × (r ≡ Err text) × (has_float value ≡ false → string_bytes t ≡ text)
RefusesValue value r OutOfMemory = Unit {0}

-- if the resolver has a value at a path below a place, then it also has a value at the place, which
-- contains the first value at that path
abbrev pub IsInside : {S : Type 0} → Resolver S → Type 0
IsInside r = (p : spec.SchemaPlace) (path : Place) (inner : Data) → r.value (spec.at_path p path) ≡ Some inner → (outer : Data) × (r.value p ≡ Some outer) × (subject_at outer path ≡ Some (a_value inner))

-- the resolver has a value at the second place, which lies strictly below the first
abbrev pub StandsBelow : {S : Type 0} → Resolver S → spec.SchemaPlace → spec.SchemaPlace → Type 0
StandsBelow r outer inner = (step : Step) × (path : Place) × (there : Data) × (inner ≡ spec.at_path outer (step ∷ path)) × (r.value inner ≡ Some there)

-- every subschema has a value, and lies strictly below its schema
abbrev pub SubschemasStandBelow : {S : Type 0} → Resolver S → Type 0
SubschemasStandBelow r = (draft : spec.Draft) (p : spec.SchemaPlace) → AllByRecursion (StandsBelow r p) (r.subresources_of draft p)

-- the subschemas within this many levels below a place are read in the draft of the schema: none of
-- them changes it
abbrev pub KeepsDraft : {S : Type 0} → Resolver S → ℕ → spec.Draft → spec.SchemaPlace → Type 0
KeepsDraft r zero draft p = Unit {0}
KeepsDraft r (suc n) draft p = AllByRecursion (λ q. (r.detect draft (unwrap_or (r.value q) null) ≡ draft) × KeepsDraft r n draft q) (r.subresources_of draft p)

-- The value at a place below an object whose members are available, and the value at one step.
use Rattle.std.proofs.Common.{◌≡◌, ◌<◌, ◌∙◌, ◌∷◌, [], List, None, Option, Some, ap, drop, get_or, length, map, option_and_then, option_map}
use Rattle.std.proofs.Common.{refl, sym, arith}
use Rattle.std.specs.Prelude.{slice_get}
use Rattle.serde_json.specs.Data.{Data}
use Rattle.theory_definitions.specs.Drafts.{SchemaPlace, at_path}
use Rattle.theory_definitions.specs.Instance.{Place, Subject, a_name, a_value, after_step, subject_at, subject_from}
use Rattle.schema_traits.specs.SchemaViews.{schema_step_of}
use Rattle.schema_traits.specs.declared.schema_place.SchemaStep.{SchemaStep}
use Rattle.schema_traits.proofs.Replies.{from_append}
use Rattle.standard_subschemas.specs.SubschemaRules.{data_of}
use Rattle.standard_resolver.specs.ResolverDocuments.{Document, value_in, value_of}

data-is : (o : Option Subject) (d : Data) → data_of o ≡ Some d → o ≡ Some (a_value d)
data-is None d h = cc
data-is (Some (a_value e)) d h = let same : e ≡ d = cc in ap (λ x. Some (a_value x)) same
data-is (Some (a_name k)) d h = cc

-- the data of values
pub data-of-values : {A : Type 0} (f : A → Data) (o : Option A) → data_of (option_map (λ a. a_value (f a)) o) ≡ option_map f o
data-of-values f None = refl
data-of-values f (Some a) = refl

below_of : (o : Option Document) (outer : SchemaPlace) (q : Place) (whole : Data) → value_of o outer ≡ Some whole
    → value_of o (at_path outer q) ≡ data_of (subject_from q (a_value whole))
below_of None outer q whole h = absurd (let no_data : ⊥ = cc in no_data)
below_of (Some d) outer q whole h =
    ap data_of (from_append outer.path q (a_value d.value)
    ∙ ap (λ (o : Option Subject). option_and_then (subject_from q) o) (data-is (subject_at d.value outer.path) whole h))

-- from the object's place on, the walk is that from the object itself
pub inside_value : (documents : List Document) (outer place : SchemaPlace) (q : Place) (whole : Data) → place ≡ at_path outer q
    → value_in documents outer ≡ Some whole
    → value_in documents place ≡ data_of (subject_from q (a_value whole))
inside_value documents outer place q whole is at = ap (value_in documents) is
    ∙ below_of (slice_get documents outer.document) outer q whole at

-- the first step, and those after it
pub first_then : (xs : List SchemaStep) (s : SchemaStep) (x : Subject) → 0 < length xs → s ≡ get_or xs 0 s
    → subject_from (map schema_step_of xs) x
    ≡ option_and_then (subject_from (map schema_step_of (drop 1 xs))) (after_step (schema_step_of s) x)
first_then [] s x l h = absurd (omega arith)
first_then (y ∷ xs) s x l h =
    ap (λ (z : SchemaStep). option_and_then (subject_from (map schema_step_of xs)) (after_step (schema_step_of z) x)) (sym h)

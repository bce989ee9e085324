-- The steps of a path, by how they are stored.
use Rattle.std.specs.Prelude.{List, [], map, ◌∷◌}
use Rattle.theory_definitions.specs.Instance.{Step}
use Rattle.schema_traits.specs.SchemaViews.{schema_step_of}
use Rattle.schema_traits.specs.declared.schema_place.Steps.{Steps}
use Rattle.schema_traits.specs.declared.schema_place.Steps.TheVariants.{Many, One, Root, Two}

abbrev pub steps_in : Steps → List Step
steps_in Root = []
steps_in (One x) = schema_step_of x ∷ []
steps_in (Two xs) = map schema_step_of xs
steps_in (Many xs) = map schema_step_of xs.items

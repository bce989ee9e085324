-- The targets that the code finds, compared with those of the definitions.
use Rattle.std.specs.Prelude.{List, Option, Result, [], option_and_then, option_map, slice_get}
use Rattle.serde_json.specs.Data.{Data}
use Rattle.theory_definitions.specs.Instance.{Place, Text}
use Rattle.theory_definitions.specs.Resolving.{Found}
use Rattle.schema_traits.specs.ResolverViews.{found_of}
use Rattle.schema_traits.specs.Showing.{Agrees, Shows}
use Rattle.schema_traits.specs.declared.resolver.LookupError.{LookupError}
use Rattle.schema_traits.specs.declared.resolver.Target.{Target}
use Rattle.standard_resolver.specs.ResolverDocuments.{Document, value_in}
use Rattle.standard_resolver.specs.DocumentLookups.{arrived, target_by_pointer}
use Rattle.standard_resolver.specs.DocumentResources.{Name, Resource, Table, dynamic_number, name_number, place_of_resource}
use Rattle.standard_resolver.specs.DocumentStates.{Point}
use Rattle.standard_resolver.specs.DocumentViews.{point_of}
use Rattle.standard_resolver.specs.declared.resolver.DocumentState.{DocumentState}

-- the result is the target that is meant, or a refusal with the text that is meant
abbrev pub LeadsTo : Result (Target DocumentState) LookupError → Result (Found Point) Text → Type 0
LeadsTo result meant = Agrees (found_of point_of) result meant

-- if the result is `Ok`, it is this target
abbrev pub ShowsTarget : {E : Type 0} → Result (Target DocumentState) E → Found Point → Type 0
ShowsTarget result meant = Shows (found_of point_of) result meant

-- if the result is `Ok`, it is this target, if there is one
abbrev pub ShowsTargetIf : {E : Type 0} → Result (Option (Target DocumentState)) E → Option (Found Point) → Type 0
ShowsTargetIf result meant = Shows (option_map (found_of point_of)) result meant

-- the target at the end of a path from the root of a resource
abbrev pub arrived_from : Table → Text → Resource → Point → Data → Point → Place → Result (Found Point) Text
arrived_from table reference r before root point path = arrived table reference r.document before r.draft root [] root r.path point path

-- the target of a pointer into a resource of these documents
abbrev pub target_pointed_at : List Document → Table → Text → Resource → Point → Point → Text → Result (Found Point) Text
target_pointed_at documents table reference r before point pointer =
    target_by_pointer table reference r before point pointer (value_in documents (place_of_resource r))

-- the first of these names that has this text
abbrev pub first_named : Text → List Name → Option Name
first_named text names = option_and_then (slice_get names) (name_number text names)

-- the first dynamic one of these names that has this text
abbrev pub first_dynamic_named : Text → List Name → Option Name
first_dynamic_named text names = option_and_then (slice_get names) (dynamic_number text names)

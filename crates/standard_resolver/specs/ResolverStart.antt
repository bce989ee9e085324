-- The part of a pointer outside the resource of its target. (Core 2020-12, section 8.2; RFC 6901,
-- section 3)
use Rattle.std.specs.Prelude.{Bool, false, true, None, Ok, Option, Some, [], if◌then◌else◌, is_some, length, slice_get, ℕ, ◌++◌, ◌≡◌, ◌∷◌}
use Rattle.std.specs.Str.Lossy.{utf8_lossy}
use Rattle.percent_encoding.specs.Percent.{percent_decode}
use Rattle.serde_json.specs.Data.{Data}
use Rattle.theory_definitions.specs.Instance.{Place, Text, a_value, after_step}
use Rattle.theory_definitions.specs.Drafts.{Draft}
use Rattle.theory_definitions.specs.Resolving.{Found}
use Rattle.theory_definitions.specs.Parts.{Parts}
use Rattle.theory_definitions.specs.Plan.{segments_length, start_of}
use Rattle.standard_subschemas.specs.declared.rules.Rule.TheVariants.{Narrow}
use Rattle.standard_subschemas.specs.SubschemaRules.{data_of, fragment_of, identifier, without_fragment}
use Rattle.standard_resolver.specs.Dialects.{Reading, detected}
use Rattle.standard_resolver.specs.ResolverDocuments.{HeldDocuments, documents_of, value_in}
use Rattle.standard_subschemas.specs.DocumentPointers.{path_of_pointer}
use Rattle.standard_resolver.specs.DocumentResources.{Resource, Table, number_of, place_of_resource}
use Rattle.standard_resolver.specs.DocumentStates.{Point, enter, resource_under, root_of}
use Rattle.standard_resolver.specs.DocumentLookups.{is_subschema}
use Rattle.standard_resolver.specs.ResolverAnswers.{document_resolving, reading_in, table_of}

-- The path of the innermost subschema with an identifier that a path enters or ends at. The walk
-- goes from a schema through subschemas: `since` leads from the last of them to the value reached
-- so far, `gone` leads there from that schema, and `last` leads to the last subschema with an
-- identifier.
abbrev pub innermost_along : Reading → Draft → Data → Place → Data → Place → Place → Place → Place
innermost_along reading draft schema since reached gone last [] = last
innermost_along reading draft schema since reached gone last (step ∷ path) = elim (data_of (after_step step (a_value reached))) [
  | None ↦ last
  | Some below ↦ elim (is_subschema reading.rule draft (since ++ step ∷ []) schema) [
    | false ↦ innermost_along reading draft schema (since ++ step ∷ []) below (gone ++ step ∷ []) last path
    | true ↦ innermost_along reading (detected reading draft below) below
        [] below (gone ++ step ∷ []) (if is_some (identifier (detected reading draft below) below) then gone ++ step ∷ [] else last) path
  ]
]

-- the same, counted from the root of a resource; the root itself if there is no such subschema
abbrev pub innermost : Reading → Draft → Data → Option Place → Place
innermost reading draft schema None = []
innermost reading draft schema (Some path) = innermost_along reading draft schema [] schema [] [] path

abbrev pub innermost_in : HeldDocuments → Text → Resource → Place
innermost_in r pointer x = elim (value_in (documents_of r) (place_of_resource x))
    [ None ↦ [] | Some schema ↦ innermost (reading_in r) x.draft schema (path_of_pointer pointer schema) ]

-- the same, for a pointer into the resource that a URI names
abbrev pub innermost_under : HeldDocuments → Text → Text → Place
innermost_under r uri pointer = elim (resource_under (table_of r) (without_fragment uri)) [ None ↦ [] | Some x ↦ innermost_in r pointer x ]

-- The base inside a resource leads back to the place where the resource begins. By the narrow rule
-- this always holds, and by the standard's it holds if no two documents claim the same URI.
abbrev pub BasesStand : Table → Type 0
BasesStand table = (uri : Text) (n : ℕ) (x : Resource) (s : Point)
    → number_of uri table.resources ≡ Some n → slice_get table.resources n ≡ Some x
    → root_of table (enter n x.base s) ≡ place_of_resource x

-- by the narrow rule, bases always lead back to their resources
abbrev pub NarrowBasesStand : Type 0
NarrowBasesStand = (r : HeldDocuments) → r.rule ≡ Narrow → BasesStand (table_of r)

-- the part of a pointer outside the resource is the part up to the innermost subschema with an
-- identifier
abbrev pub StartsAtInnermost : {K R : Type 0} → Parts Point K R → Type 0
StartsAtInnermost w = (r : HeldDocuments) → BasesStand (table_of r) → w.resolver ≡ document_resolving r
    → (s : Point) (reference uri rest : Text) (dynamic : Bool) (f : Found Point)
    → (document_resolving r).resolve_uri s reference ≡ Ok uri → fragment_of uri ≡ 47 ∷ rest
    → (document_resolving r).lookup s reference dynamic ≡ Ok f
    → let pointer = utf8_lossy (percent_decode (47 ∷ rest)) in
    start_of w f pointer ≡ segments_length (length (innermost_under r uri pointer)) pointer

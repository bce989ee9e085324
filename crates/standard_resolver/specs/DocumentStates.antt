-- The state of a run: the base of its resource, and the resources that it entered. (Core 2020-12,
-- sections 7.1 and 8.2.1)
use Rattle.std.specs.List.{list_any}
use Rattle.std.specs.Prelude.{Bool, Err, List, None, Ok, Option, Result, Some, [], bytes_eq, codes, if◌then◌else◌, nat_eq, option_and_then}
use Rattle.std.specs.Prelude.{slice_get, ℕ, ◌&&◌, ◌++◌, ◌∷◌}
use Rattle.serde_json.specs.Data.{Data}
use Rattle.theory_definitions.specs.Instance.{Place, Text}
use Rattle.theory_definitions.specs.Drafts.{Draft, SchemaPlace, same_schema_place}
use Rattle.standard_subschemas.specs.SubschemaRules.{identifier, root_place}
use Rattle.standard_subschemas.specs.declared.rules.Rule.{Rule}
use Rattle.standard_subschemas.specs.declared.rules.Rule.TheVariants.{Narrow, Standard}
use Rattle.standard_resolver.specs.Dialects.{is_refused, schema_of, text_or_none, unknown_meta}
use Rattle.standard_resolver.specs.ResolverDocuments.{Document}
use Rattle.standard_subschemas.specs.DocumentUris.{own_uri, root_base}
use Rattle.standard_resolver.specs.DocumentResources.{Resource, Table, number_of, place_of_resource}

-- a state: the base, and the numbers of the entered resources in the order of first entry
pub record Point : Type 0 where
  pub base : Text
  pub entered : List ℕ

abbrev pub same_point : Point → Point → Bool
same_point a b = bytes_eq a.base b.base && bytes_eq a.entered b.entered

-- the state after a resource is entered: one that was not entered before is added at the end
abbrev pub enter : ℕ → Text → Point → Point
enter n uri s = record { base = uri; entered = if list_any (nat_eq n) s.entered then s.entered else s.entered ++ n ∷ [] }

abbrev pub no_identified : Text → Text
no_identified id = codes "this resolver finds no resource of its own for the identifier " ++ id

-- the base inside a document whose root is this schema
abbrev pub uri_of_document : Rule → Draft → Data → Option Document → Option Text
uri_of_document rule draft schema None = None
uri_of_document rule draft schema (Some d) = Some (root_base rule d.uri draft schema)

-- The state from which a pointer enters an inner resource. By the standard's rule it is the one
-- before the pointer, since the outer resources that it passes through are not entered. By the narrow
-- rule they are.
abbrev pub state_outside : Rule → Point → Point → Point
state_outside Narrow before s = s
state_outside Standard before s = before

module _ (table : Table) where
  -- the resource under a URI without a fragment
  abbrev pub resource_under : Text → Option Resource
  resource_under uri = option_and_then (slice_get table.resources) (number_of uri table.resources)

  -- the number of a resource, if it begins at a place
  abbrev pub number_if_at : SchemaPlace → ℕ → Option ℕ
  number_if_at p n = elim (slice_get table.resources n)
      [ None ↦ None | Some x ↦ if same_schema_place (place_of_resource x) p then Some n else None ]

  abbrev pub number_at : SchemaPlace → Text → Option ℕ
  number_at p uri = option_and_then (number_if_at p) (number_of uri table.resources)

  -- the place where the resource under the state's base begins, or the root if there is none
  abbrev pub root_of : Point → SchemaPlace
  root_of s = elim (resource_under s.base) [ None ↦ root_place | Some x ↦ place_of_resource x ]

  -- The state after the resource that begins at a place with an identifier is entered. If the
  -- schema has no URI of its own, or its URI belongs to another resource, it is refused.
  abbrev pub entered_by : SchemaPlace → Text → Point → Option Text → Result Point Text
  entered_by p id s None = Err (no_identified id)
  entered_by p id s (Some uri) = elim (number_at p uri) [ None ↦ Err (no_identified id) | Some n ↦ Ok (enter n uri s) ]

  -- a resource is entered only if the draft of its root is known
  abbrev pub entered_if_known : Draft → Data → Result Point Text → Result Point Text
  entered_if_known draft schema inside =
      if is_refused table.reading.rule draft then Err (unknown_meta (text_or_none (schema_of schema))) else inside

  -- the state inside a schema below a document's root
  abbrev pub entered_below : Point → Draft → SchemaPlace → Data → Result Point Text
  entered_below s draft p schema = elim (identifier draft schema)
      [ None ↦ Ok s | Some id ↦ entered_if_known draft schema (entered_by p id s (own_uri table.reading.rule s.base id)) ]

  -- the state inside a schema to which a pointer passes; `before` is the state before the pointer, and
  -- s the state in the resource around the schema
  abbrev pub entered_inner : Point → Point → Draft → SchemaPlace → Data → Result Point Text
  entered_inner before s draft p schema = elim (identifier draft schema)
      [ None ↦ Ok s | Some id ↦ entered_if_known draft schema (entered_by p id (state_outside table.reading.rule before s) (own_uri table.reading.rule s.base id)) ]

  -- the state inside a document's root
  abbrev pub entered_root : List Document → Point → Draft → SchemaPlace → Data → Result Point Text
  entered_root documents s draft p schema = elim (identifier draft schema) [
    | None ↦ Ok s
    | Some id ↦ entered_if_known draft schema
        (entered_by p id s (uri_of_document table.reading.rule draft schema (slice_get documents p.document)))
  ]

  abbrev pub entered_at : List Document → Point → Draft → SchemaPlace → Place → Data → Result Point Text
  entered_at documents s draft p [] schema = entered_root documents s draft p schema
  entered_at documents s draft p (step ∷ path) schema = entered_below s draft p schema

  -- the state inside the value at a place
  abbrev pub entered : List Document → Point → Draft → SchemaPlace → Option Data → Result Point Text
  entered documents s draft p None = Ok s
  entered documents s draft p (Some schema) = entered_at documents s draft p p.path schema

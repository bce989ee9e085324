-- The targets of references: a resource under a URI, and in it the target of a pointer or a name. By
-- the standard's rule a pointer that passes into inner resources enters the innermost one alone, so
-- that the state does not depend on the URI by which a target is reached.
-- (Core 2020-12, sections 8.2.1 to 8.2.3; Core 2019-09, section 8.2.4.2; RFC 3986, section 3.5; RFC
-- 6901, section 6)
use Rattle.std.specs.List.{list_any}
use Rattle.std.specs.Prelude.{Bool, Err, List, None, Ok, Option, Result, Some, [], codes, false, if◌then◌else◌, option_and_then}
use Rattle.std.specs.Prelude.{option_map, slice_get, true, ℕ, ◌&&◌, ◌++◌, ◌==◌, ◌∷◌}
use Rattle.std.specs.Str.Lossy.{utf8_lossy}
use Rattle.percent_encoding.specs.Percent.{percent_decode}
use Rattle.serde_json.specs.Data.{Data}
use Rattle.theory_definitions.specs.Instance.{Place, Text, a_value, after_step, same_place}
use Rattle.theory_definitions.specs.Drafts.{Draft}
use Rattle.theory_definitions.specs.Resolving.{Found}
use Rattle.standard_subschemas.specs.declared.rules.Rule.{Rule}
use Rattle.standard_subschemas.specs.declared.rules.Rule.TheVariants.{Narrow, Standard}
use Rattle.standard_subschemas.specs.SubschemaRules.{data_of, fragment_of, subschemas, without_fragment}
use Rattle.standard_resolver.specs.Dialects.{detected, is_refused, text_or_none, unknown_meta}
use Rattle.standard_resolver.specs.ResolverDocuments.{Document, value_in}
use Rattle.standard_subschemas.specs.DocumentPointers.{path_by_pointer}
use Rattle.standard_subschemas.specs.DocumentUris.{resolve_uri}
use Rattle.standard_resolver.specs.DocumentResources.{Name, Resource, Table, dynamic_number, name_number, number_of, place_of_resource}
use Rattle.standard_subschemas.specs.FragmentNames.{name_in_fragment}
use Rattle.standard_resolver.specs.DocumentStates.{Point, enter, entered_inner}

-- the texts of refusals, which name the reference
abbrev pub no_resource : Text → Text
no_resource reference = codes "this resolver has no resource for the reference " ++ reference

-- the standard's rule names the URI of the missing resource instead
abbrev pub not_at_hand : Rule → Text → Text → Text
not_at_hand Narrow reference uri = no_resource reference
not_at_hand Standard reference uri = codes "this resolver has no resource under the URI " ++ uri

abbrev pub nothing_there : Text → Text
nothing_there reference = codes "nothing stands where this reference points: " ++ reference

abbrev pub no_name : Text → Text
no_name reference = codes "nothing has the name of the reference " ++ reference

abbrev pub no_base : Text → Text
no_base base = codes "this resolver has no resource under the base " ++ base

-- whether a path leads from a schema to one of its subschemas
abbrev pub is_subschema : Rule → Draft → Place → Data → Bool
is_subschema rule draft path schema = list_any (same_place path) (subschemas rule draft schema)

-- the target with a name
abbrev pub target_named : ℕ → Resource → Point → Name → Found Point
target_named n r s x = record { place = record { document = r.document; path = x.path }; state = enter n r.base s; draft = x.draft }

-- the target that is a resource's root
abbrev pub target_root : ℕ → Resource → Point → Found Point
target_root n r s = record { place = place_of_resource r; state = enter n r.base s; draft = r.draft }

module _ (table : Table) where
  -- The target at the end of a path. The walk goes from a resource's root through subschemas:
  -- `since` leads from the last of them to the value reached so far, and `gone` leads there from
  -- the document's root. The draft is detected at each subschema on the path and at the target, and
  -- each subschema with an identifier is entered. `before` is the state before the pointer.
  abbrev pub arrived : Text → ℕ → Point → Draft → Data → Place → Data → Place → Point → Place → Result (Found Point) Text
  arrived reference document before draft schema since reached gone s [] =
      Ok (record { place = record { document = document; path = gone }; state = s; draft = detected table.reading draft reached })
  arrived reference document before draft schema since reached gone s (step ∷ path) = elim (data_of (after_step step (a_value reached))) [
    | None ↦ Err (nothing_there reference)
    | Some below ↦ elim (is_subschema table.reading.rule draft (since ++ step ∷ []) schema) [
      | false ↦ arrived reference document before draft schema (since ++ step ∷ []) below (gone ++ step ∷ []) s path
      | true ↦ elim (entered_inner table before s (detected table.reading draft below) (record { document = document; path = gone ++ step ∷ [] }) below) [
        | Err text ↦ Err text
        | Ok inside ↦ arrived reference document before (detected table.reading draft below) below [] below (gone ++ step ∷ []) inside path
      ]
    ]
  ]

  -- ---- pointers

  -- the target at a path below a resource's root, where the state is s
  abbrev pub target_by_path : Text → Resource → Point → Point → Data → Option Place → Result (Found Point) Text
  target_by_path reference r before s schema None = Err (nothing_there reference)
  target_by_path reference r before s schema (Some path) = arrived reference r.document before r.draft schema [] schema r.path s path

  -- the target of a pointer, which is percent-decoded and read from the resource's root
  abbrev pub target_by_pointer : Text → Resource → Point → Point → Text → Option Data → Result (Found Point) Text
  target_by_pointer reference r before s pointer None = Err (nothing_there reference)
  target_by_pointer reference r before s pointer (Some schema) =
      target_by_path reference r before s schema (path_by_pointer table.reading.rule (utf8_lossy (percent_decode pointer)) schema)

  -- ---- names

  -- the first of these resources that has a dynamic name
  abbrev pub dynamic_in : Point → Text → ℕ → Option (Found Point)
  dynamic_in s name n = elim (slice_get table.resources n) [
    | None ↦ None
    | Some r ↦ option_map (target_named n r s) (option_and_then (slice_get r.names) (dynamic_number name r.names))
  ]

  abbrev pub first_dynamic : Point → Text → List ℕ → Option (Found Point)
  first_dynamic s name [] = None
  first_dynamic s name (n ∷ ns) = elim (dynamic_in s name n) [ None ↦ first_dynamic s name ns | Some f ↦ Some f ]

  -- A dynamic reference to a dynamic name leads into the first entered resource that has this
  -- dynamic name. If none has it, the target that was found stays.
  abbrev pub outermost : Point → Text → Found Point → Found Point
  outermost s name f = elim (first_dynamic s name s.entered) [ None ↦ f | Some g ↦ g ]

  abbrev pub target_by_name : Text → ℕ → Resource → Point → Bool → Text → Option Name → Result (Found Point) Text
  target_by_name reference n r s dynamic name None = Err (no_name reference)
  target_by_name reference n r s dynamic name (Some x) =
      Ok (if dynamic && x.dynamic then outermost s name (target_named n r s x) else target_named n r s x)

  -- ---- references

  -- the target of a name, if the resource has it
  abbrev pub target_of_name : Text → ℕ → Resource → Point → Bool → Text → Result (Found Point) Text
  target_of_name reference n r s dynamic name =
      target_by_name reference n r s dynamic name (option_and_then (slice_get r.names) (name_number name r.names))

  -- the target of a fragment: nothing, a pointer, or a name
  abbrev pub target_by_fragment : List Document → Text → ℕ → Resource → Point → Bool → Text → Result (Found Point) Text
  target_by_fragment documents reference n r s dynamic [] = Ok (target_root n r s)
  target_by_fragment documents reference n r s dynamic (x ∷ xs) = if x == 47 then target_by_pointer reference r s (enter n r.base s) (x ∷ xs)
      (value_in documents (place_of_resource r))
      else target_of_name reference n r s dynamic (name_in_fragment table.reading.rule (x ∷ xs))

  abbrev pub target_in : List Document → Text → Text → Point → Bool → Text → ℕ → Option Resource → Result (Found Point) Text
  target_in documents reference uri s dynamic fragment n None = Err (not_at_hand table.reading.rule reference uri)
  target_in documents reference uri s dynamic fragment n (Some r) =
      if is_refused table.reading.rule r.draft then Err (unknown_meta (text_or_none r.named))
      else target_by_fragment documents reference n r s dynamic fragment

  abbrev pub target_under : List Document → Text → Text → Point → Bool → Text → Option ℕ → Result (Found Point) Text
  target_under documents reference uri s dynamic fragment None = Err (not_at_hand table.reading.rule reference uri)
  target_under documents reference uri s dynamic fragment (Some n) =
      target_in documents reference uri s dynamic fragment n (slice_get table.resources n)

  abbrev pub target_of_uri : List Document → Text → Point → Bool → Result Text Text → Result (Found Point) Text
  target_of_uri documents reference s dynamic (Err text) = Err text
  target_of_uri documents reference s dynamic (Ok uri) = target_under documents reference uri s dynamic (fragment_of uri)
      (number_of (without_fragment uri) table.resources)

  -- the target of a reference
  abbrev pub looked_up : List Document → Point → Text → Bool → Result (Found Point) Text
  looked_up documents s reference dynamic = target_of_uri documents reference s dynamic (resolve_uri table.reading.rule s.base reference)

  -- ---- recursive references

  -- the first of these resources whose root has `$recursiveAnchor: true`
  abbrev pub recursive_in : Point → ℕ → Option (Found Point)
  recursive_in s n = elim (slice_get table.resources n) [ None ↦ None | Some r ↦ if r.recursive then Some (target_root n r s) else None ]

  abbrev pub first_recursive : Point → List ℕ → Option (Found Point)
  first_recursive s [] = None
  first_recursive s (n ∷ ns) = elim (recursive_in s n) [ None ↦ first_recursive s ns | Some f ↦ Some f ]

  abbrev pub recursive_from : ℕ → Resource → Point → Found Point
  recursive_from n r s = if r.recursive then elim (first_recursive s s.entered) [ None ↦ target_root n r s | Some f ↦ f ]
      else target_root n r s

  abbrev pub recursive_under : Point → Option ℕ → Result (Found Point) Text
  recursive_under s None = Err (no_base s.base)
  recursive_under s (Some n) = elim (slice_get table.resources n) [ None ↦ Err (no_base s.base) | Some r ↦ Ok (recursive_from n r s) ]

  -- the target of a `$recursiveRef`: the root of the resource, or the first entered root that is
  -- recursive if the resource's is
  abbrev pub looked_up_recursive : Point → Result (Found Point) Text
  looked_up_recursive s = recursive_under s (number_of s.base table.resources)

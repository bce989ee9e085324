-- References and URIs: the target of a reference from a base, and the URI of an identifier. By the
-- standard's rule both are resolved against the base. The narrow rule merges no reference with the
-- path of a base: it refuses references that are not empty, a fragment, or a URI with a scheme. By
-- the standard's rule every URI has its scheme and its host in lower case, so that URIs which differ
-- in the case of these are one.
-- (RFC 3986, sections 3, 4.1, 4.3, 4.4, 5.2 and 6.2.2.1; Core 2020-12, section 8.2; draft-07 Core,
-- section 8.2)
use Rattle.std.specs.Prelude.{Bool, Err, None, Ok, Option, Result, Some, [], codes, false, if◌then◌else◌, option_and_then, true, unwrap_or}
use Rattle.std.specs.Prelude.{◌++◌, ◌==◌, ◌||◌, ◌∷◌}
use Rattle.serde_json.specs.Data.{Data}
use Rattle.theory_definitions.specs.Instance.{Text}
use Rattle.theory_definitions.specs.Drafts.{Draft}
use Rattle.uri_references.specs.Normal.{normalized, resolved_normally}
use Rattle.uri_references.specs.References.{resolved}
use Rattle.standard_subschemas.specs.declared.rules.Rule.{Rule}
use Rattle.standard_subschemas.specs.declared.rules.Rule.TheVariants.{Narrow, Standard}
use Rattle.standard_subschemas.specs.SubschemaRules.{identifier, without_fragment}

-- a `:` comes before any `/`, `?` or `#`: the URI has a scheme
abbrev pub is_absolute : Text → Bool
is_absolute [] = false
is_absolute (x ∷ xs) = if x == 58 then true else (if x == 47 || (x == 63 || x == 35) then false else is_absolute xs)

-- the text of a refusal, with the reference
abbrev pub not_resolved : Text → Text
not_resolved reference = codes "this resolver does not resolve the reference " ++ reference

-- The target of a reference by the narrow rule: the base without its fragment for the empty
-- reference, this base and the fragment for a fragment, and the reference itself if it has a
-- scheme. Any other reference is refused.
abbrev pub resolve_narrowly : Text → Text → Result Text Text
resolve_narrowly base [] = Ok (without_fragment base)
resolve_narrowly base (x ∷ xs) = if x == 35 then Ok (without_fragment base ++ x ∷ xs)
    else (if is_absolute (x ∷ xs) then Ok (x ∷ xs) else Err (not_resolved (x ∷ xs)))

-- the target of a reference
abbrev pub resolve_uri : Rule → Text → Text → Result Text Text
resolve_uri Narrow base reference = resolve_narrowly base reference
resolve_uri Standard base reference = Ok (resolved_normally base reference)

-- The URI that an identifier means for its schema. By the narrow rule it is the identifier without
-- its fragment, if it has a scheme; by the standard's it is the identifier resolved against the
-- base of the resource around the schema, without its fragment.
abbrev pub own_uri : Rule → Text → Text → Option Text
own_uri Narrow base id = if is_absolute id then Some (without_fragment id) else None
own_uri Standard base id = Some (without_fragment (resolved_normally base id))

-- the base inside a schema, given the base around it
abbrev pub base_inside : Rule → Text → Draft → Data → Text
base_inside rule base draft schema = unwrap_or (option_and_then (own_uri rule base) (identifier draft schema)) base

-- The base inside a document that is supplied under a URI. By the narrow rule it is this URI; by
-- the standard's it is the root's identifier resolved against this URI, if the root has one.
abbrev pub root_base : Rule → Text → Draft → Data → Text
root_base Narrow uri draft schema = without_fragment uri
root_base Standard uri draft schema = base_inside Standard (normalized (without_fragment uri)) draft schema

-- the URI of an identifier by the standard's rule, in the case in which it is written
abbrev pub written_uri : Text → Text → Text
written_uri base id = without_fragment (resolved base id)

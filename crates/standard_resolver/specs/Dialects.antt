-- The dialects of documents and of the resources in them: a draft, and the `$schema` that is in
-- force. A `$schema` names a standard's draft by the standard's URI, or a document that is supplied
-- as a meta-schema. The draft of that is the one that its own `$schema` names. By the standard's
-- rule `$schema` is read at the roots of documents and of embedded resources alone, and a resource
-- without one has the dialect of the resource around it. By the narrow rule it is read in each
-- schema, and names a draft by a standard's URI alone. (Core 2020-12, sections 8.1.1, 9.1.1 and
-- 9.3.2; draft-07 Core, section 7)
use Rattle.std.specs.Prelude.{Bool, Err, List, None, Ok, Option, Result, Some, [], codes, false, if◌then◌else◌, is_some, length, map}
use Rattle.std.specs.Prelude.{option_and_then, slice_get, suc, true, zero, ℕ, ◌++◌, ◌∷◌}
use Rattle.serde_json.specs.Data.{Data}
use Rattle.theory_definitions.specs.Instance.{Text}
use Rattle.theory_definitions.specs.Drafts.{Draft, draft_2020_12, draft_unknown}
use Rattle.standard_subschemas.specs.declared.rules.Rule.{Rule}
use Rattle.standard_subschemas.specs.declared.rules.Rule.TheVariants.{Narrow, Standard}
use Rattle.standard_subschemas.specs.DocumentKeys.{number_in}
use Rattle.standard_subschemas.specs.DocumentUris.{own_uri}
use Rattle.standard_dialects.specs.StandardDrafts.{standard_draft}
use Rattle.standard_subschemas.specs.SubschemaRules as narrow
use Rattle.standard_subschemas.specs.SubschemaRules.{fragment_of, identifier, text_member, without_fragment}
use Rattle.standard_resolver.specs.ResolverDocuments.{Document}

-- ---- documents as meta-schemas

-- what is read of a document that may be a meta-schema: its URI, the URI that its root's identifier
-- means, and its root's `$schema`
pub record Meta : Type 0 where
  pub uri : Text
  pub own : Option Text
  pub named : Option Text

-- how documents are read: by this rule; the first document in this draft, if one is given, whatever
-- its `$schema` says; a document without `$schema` in the default draft; and a `$schema` names one
-- of these meta-schemas
pub record Reading : Type 0 where
  pub rule : Rule
  pub root_draft : Option Draft
  pub default_draft : Draft
  pub metas : List Meta

-- the draft that a document's `$schema` names by a standard's URI, or else a default one
abbrev pub draft_said : Draft → Option Text → Draft
draft_said default None = default
draft_said default (Some t) = standard_draft t

-- the `$schema` of a root
abbrev pub schema_of : Data → Option Text
schema_of v = text_member (codes "$schema") v

-- a document as a meta-schema; its root's identifier is read in the draft that its `$schema` names
-- by a standard's URI
abbrev pub meta_of : Draft → Document → Meta
meta_of default d =
    let named = schema_of d.value in
    record {
      uri = without_fragment d.uri;
      own = option_and_then (own_uri Standard (without_fragment d.uri)) (identifier (draft_said default named) d.value);
      named = named;
    }

-- by the narrow rule no document is a meta-schema
abbrev pub metas_of : Rule → Draft → List Document → List Meta
metas_of Narrow default documents = []
metas_of Standard default documents = map (meta_of default) documents

abbrev pub reading_of : Rule → Option Draft → Draft → List Document → Reading
reading_of rule root default documents =
    record { rule = rule; root_draft = root; default_draft = default; metas = metas_of rule default documents }

abbrev pub uri_key : Meta → Option Text
uri_key m = Some m.uri

abbrev pub own_key : Meta → Option Text
own_key m = m.own

-- the first of two numbers that is there
abbrev pub first_of : Option ℕ → Option ℕ → Option ℕ
first_of None later = later
first_of (Some n) later = Some n

-- the number of the meta-schema under a URI: of the first document that is supplied under it, or
-- else of the first whose root's identifier means it
abbrev pub number_under : Text → List Meta → Option ℕ
number_under uri metas = first_of (number_in uri (map uri_key metas)) (number_in uri (map own_key metas))

-- only an empty fragment may follow the URI
abbrev pub number_if_whole : Text → Option ℕ → Option ℕ
number_if_whole [] n = n
number_if_whole (x ∷ xs) n = None

-- the number of the meta-schema that a `$schema` names
abbrev pub meta_number : Text → List Meta → Option ℕ
meta_number t metas = number_if_whole (fragment_of t) (number_under (without_fragment t) metas)

abbrev pub meta_named : Text → List Meta → Option Meta
meta_named t metas = option_and_then (slice_get metas) (meta_number t metas)

-- ---- the drafts that `$schema` names

-- the draft, or another one if it is unknown
abbrev pub known_or : Draft → Draft → Draft
known_or draft_unknown other = other
known_or d other = d

-- the draft that a `$schema` names, or a default one if there is none
abbrev pub named_or : (Text → Draft) → Draft → Option Text → Draft
named_or names default None = default
named_or names default (Some t) = names t

-- the draft of a meta-schema: that of the meta-schema that it names
abbrev pub draft_of_meta : (Text → Draft) → Draft → Option Meta → Draft
draft_of_meta names default None = draft_unknown
draft_of_meta names default (Some m) = named_or names default m.named

module _ (reading : Reading) where
  -- the draft that a `$schema` names, if at most so many meta-schemas are followed
  abbrev pub draft_within : ℕ → Text → Draft
  draft_within zero t = standard_draft t
  draft_within (suc n) t =
      known_or (standard_draft t) (draft_of_meta (draft_within n) reading.default_draft (meta_named t reading.metas))

  -- the draft that a `$schema` names; it is unknown if a meta-schema is missing, or if they lead
  -- back to one of them
  abbrev pub draft_named : Text → Draft
  draft_named t = draft_within (length reading.metas) t

-- ---- dialects

-- a draft, and the `$schema` that is in force, if there is one
pub record Dialect : Type 0 where
  pub draft : Draft
  pub named : Option Text

-- the dialect that a `$schema` of a schema names, if the schema has an identifier in its draft
abbrev pub dialect_if : Dialect → Draft → Text → Data → Dialect
dialect_if around draft t v = if is_some (identifier draft v) then record { draft = draft; named = Some t } else around

abbrev pub dialect_named : Reading → Dialect → Data → Option Text → Dialect
dialect_named reading around v None = around
dialect_named reading around v (Some t) = dialect_if around (draft_named reading t) t v

abbrev pub dialect_by : Rule → Reading → Dialect → Data → Dialect
dialect_by Narrow reading around v = record { draft = narrow.detected around.draft v; named = around.named }
dialect_by Standard reading around v = dialect_named reading around v (schema_of v)

-- the dialect of a value inside a schema of a dialect
abbrev pub dialect_inside : Reading → Dialect → Data → Dialect
dialect_inside reading around v = dialect_by reading.rule reading around v

-- the draft of a value inside a schema of a draft
abbrev pub detected : Reading → Draft → Data → Draft
detected reading d v = (dialect_inside reading (record { draft = d; named = None }) v).draft

-- the dialect that a document's root names, or that of a default draft
abbrev pub root_named : Reading → Draft → Option Text → Dialect
root_named reading default None = record { draft = default; named = None }
root_named reading default (Some t) = record { draft = draft_named reading t; named = Some t }

abbrev pub root_by : Rule → Reading → Draft → Data → Dialect
root_by Narrow reading default v = record { draft = narrow.detected default v; named = None }
root_by Standard reading default v = root_named reading default (schema_of v)

-- the dialect of the root of the document with a number: the given draft for the first one, if there
-- is one
abbrev pub dialect_given : Option Draft → Dialect → ℕ → Dialect
dialect_given (Some d) said zero = record { draft = d; named = None }
dialect_given _ said n = said

abbrev pub root_dialect : Reading → ℕ → Data → Dialect
root_dialect reading n v = dialect_given reading.root_draft (root_by reading.rule reading reading.default_draft v) n

-- ---- refusals

-- the refusal of a `$schema` whose meta-schema is not at hand
abbrev pub unknown_meta : Text → Text
unknown_meta t = codes "this resolver does not know this meta-schema (supply it as a document, or set the draft): " ++ t

abbrev pub is_unknown : Draft → Bool
is_unknown draft_unknown = true
is_unknown _ = false

-- whether the resources of a draft are refused: by the standard's rule, those of an unknown one
abbrev pub is_refused : Rule → Draft → Bool
is_refused Narrow d = false
is_refused Standard d = is_unknown d

-- the text of a `$schema`, if there is one
abbrev pub text_or_none : Option Text → Text
text_or_none None = []
text_or_none (Some t) = t

-- the refusal of a root whose draft is not known
abbrev pub unknown_draft : Rule → Option Text → Text
unknown_draft Narrow t = codes "this resolver does not know the draft of the schema"
unknown_draft Standard t = unknown_meta (text_or_none t)

-- a draft that a root names; an unknown one is refused
abbrev pub unless_unknown : Rule → Dialect → Result Draft Text
unless_unknown rule dialect = if is_unknown dialect.draft then Err (unknown_draft rule dialect.named) else Ok dialect.draft

-- the draft that a root declares; 2020-12 if it has no `$schema`
abbrev pub draft_declared : Reading → Data → Result Draft Text
draft_declared reading v = unless_unknown reading.rule (root_by reading.rule reading draft_2020_12 v)

-- Worked rows of dialects by the standard's rule, by computation. The meta-schemas and what they put
-- in force come from the official test suite's files `vocabulary.json` and `format-assertion.json`;
-- the other rows come from the standard. (draft-07 Core, section 7; Core 2020-12, sections 8.1.1,
-- 8.1.2 and 9.3.2)
use Rattle.std.specs.Prelude.{Err, List, None, Some, [], codes, false, true, ◌++◌, ◌≡◌, ◌∷◌}
use Rattle.serde_json.specs.Data.{Data, boolean, member, no_members, object, string}
use Rattle.theory_definitions.specs.Instance.{Text}
use Rattle.theory_definitions.specs.Drafts.{applicator_vocabulary, core_vocabulary, custom_vocabulary, draft_2019_09, draft_2020_12}
use Rattle.theory_definitions.specs.Drafts.{draft_4, draft_7, draft_unknown, format_assertion_vocabulary, validation_vocabulary}
use Rattle.standard_subschemas.specs.declared.rules.Rule.TheVariants.{Standard}
use Rattle.standard_dialects.specs.ListedVocabularies.{listed}
use Rattle.standard_resolver.specs.Dialects.{Reading, detected, draft_declared, draft_named, reading_of, unknown_meta}
use Rattle.standard_resolver.specs.ResolverDocuments.{Document}
use Rattle.standard_resolver.specs.DocumentRows.{alone, one, two, under}
use Rattle.standard_resolver.specs.StandardRows.{in_these, leads}

-- documents read by the standard's rule, in draft 7 if they have no `$schema`
abbrev pub read : List Document → Reading
read documents = reading_of Standard None draft_7 documents

-- {"$schema": URI}
abbrev pub naming : Text → Data
naming uri = one (codes "$schema") (string uri)

-- ---- the drafts that URIs name

-- the scheme and an empty fragment make no difference
abbrev pub OtherSchemes : Type 0
OtherSchemes = draft_named (read []) (codes "https://json-schema.org/draft-04/schema#") ≡ draft_4

abbrev pub OtherSchemesLate : Type 0
OtherSchemesLate = draft_named (read []) (codes "http://json-schema.org/draft/2019-09/schema") ≡ draft_2019_09

-- the URI without a draft names the latest one
abbrev pub LatestDraft : Type 0
LatestDraft = draft_named (read []) (codes "http://json-schema.org/schema#") ≡ draft_2020_12

-- another fragment names no draft
abbrev pub OtherFragment : Type 0
OtherFragment = draft_named (read []) (codes "http://json-schema.org/draft-07/schema#a") ≡ draft_unknown

-- {"$id": "http://m/b", "$schema": "https://json-schema.org/draft/2019-09/schema"} under http://m/a, and
-- {"$schema": "http://m/b#"} under http://m/c
abbrev pub metas : List Document
metas = under (codes "http://m/a") (two (codes "$id") (string (codes "http://m/b"))
    (codes "$schema") (string (codes "https://json-schema.org/draft/2019-09/schema")))
    ++ under (codes "http://m/c") (naming (codes "http://m/b#"))

-- a supplied meta-schema has the draft that it names
abbrev pub SuppliedDecides : Type 0
SuppliedDecides = draft_named (read metas) (codes "http://m/a") ≡ draft_2019_09

-- it is found under its root's identifier too, and followed to the one that it names
abbrev pub FollowedDecides : Type 0
FollowedDecides = draft_named (read metas) (codes "http://m/c") ≡ draft_2019_09

-- one that is not supplied is unknown
abbrev pub AbsentIsUnknown : Type 0
AbsentIsUnknown = draft_named (read metas) (codes "http://m/d") ≡ draft_unknown

-- one without `$schema` has the default draft
abbrev pub UnnamedHasTheDefault : Type 0
UnnamedHasTheDefault = draft_named (read (under (codes "http://m/a") (boolean true))) (codes "http://m/a") ≡ draft_7

-- meta-schemas that lead back to one of them are unknown
abbrev pub CycleIsUnknown : Type 0
CycleIsUnknown = draft_named (read (under (codes "http://m/a") (naming (codes "http://m/b")) ++ under (codes "http://m/b")
    (naming (codes "http://m/a")))) (codes "http://m/a")
    ≡ draft_unknown

-- ---- the roots of resources

-- in a schema without an identifier `$schema` changes nothing
abbrev pub SubschemaKeepsTheDraft : Type 0
SubschemaKeepsTheDraft = detected (read metas) draft_7 (naming (codes "http://m/a")) ≡ draft_7

-- in a resource it does
abbrev pub ResourceHasItsDraft : Type 0
ResourceHasItsDraft = detected (read metas) draft_7 (two (codes "$id") (string (codes "http://x/y")) (codes "$schema")
    (string (codes "http://m/a"))) ≡ draft_2019_09

-- a root that names an unknown meta-schema is refused with its URI
abbrev pub UnknownRootIsRefused : Type 0
UnknownRootIsRefused = draft_declared (read metas) (naming (codes "http://m/d")) ≡ Err (unknown_meta (codes "http://m/d"))

-- {"definitions": {"a": {"$id": "http://x/a", "$schema": "http://m/d", "definitions": {"b": true}}}}
abbrev pub unknown_inside : List Document
unknown_inside = alone (one (codes "definitions") (one (codes "a") (object (member (codes "$id") (string (codes "http://x/a"))
    (member (codes "$schema") (string (codes "http://m/d"))
    (member (codes "definitions") (one (codes "b") (boolean true)) no_members))))))

-- a reference into such a resource is refused, by its own URI and by a pointer that enters it
abbrev pub UnknownTargetIsRefused : Type 0
UnknownTargetIsRefused = leads draft_7 unknown_inside (in_these (codes "json-schema:///") (0 ∷ [])) (codes "http://x/a") false
    ≡ Err (unknown_meta (codes "http://m/d"))

abbrev pub UnknownOnTheWayIsRefused : Type 0
UnknownOnTheWayIsRefused = leads draft_7 unknown_inside (in_these (codes "json-schema:///") (0 ∷ []))
    (codes "#/definitions/a/definitions/b") false
    ≡ Err (unknown_meta (codes "http://m/d"))

-- ---- vocabularies

-- {"$vocabulary": {URI: true, URI: BOOLEAN}}
abbrev pub listing : Text → Text → Data → Data
listing first second value = one (codes "$vocabulary") (two first (boolean true) second value)

-- a meta-schema without the validation vocabulary
abbrev pub NoValidation : Type 0
NoValidation = listed draft_2020_12 (listing (codes "https://json-schema.org/draft/2020-12/vocab/applicator")
    (codes "https://json-schema.org/draft/2020-12/vocab/core") (boolean true))
    ≡ Some (applicator_vocabulary ∷ core_vocabulary ∷ [])

-- an unknown vocabulary that is not required is ignored
abbrev pub OptionalIsIgnored : Type 0
OptionalIsIgnored = listed draft_2020_12 (listing (codes "https://json-schema.org/draft/2020-12/vocab/validation")
    (codes "http://localhost:1234/draft/2020-12/vocab/custom") (boolean false))
    ≡ Some (validation_vocabulary ∷ [])

-- one that is required is in force
abbrev pub RequiredIsCustom : Type 0
RequiredIsCustom = listed draft_2020_12 (listing (codes "https://json-schema.org/draft/2020-12/vocab/validation")
    (codes "http://localhost:1234/draft/2020-12/vocab/custom") (boolean true))
    ≡ Some (validation_vocabulary ∷ custom_vocabulary (codes "http://localhost:1234/draft/2020-12/vocab/custom") ∷ [])

-- a known vocabulary is in force whether it is required or not
abbrev pub KnownIsInForce : Type 0
KnownIsInForce = listed draft_2020_12 (listing (codes "https://json-schema.org/draft/2020-12/vocab/core")
    (codes "https://json-schema.org/draft/2020-12/vocab/format-assertion") (boolean false))
    ≡ Some (core_vocabulary ∷ format_assertion_vocabulary ∷ [])

-- the one for formats of 2019-09 has to be required
abbrev pub FormatHasToBeRequired : Type 0
FormatHasToBeRequired = listed draft_2019_09 (listing (codes "https://json-schema.org/draft/2019-09/vocab/core")
    (codes "https://json-schema.org/draft/2019-09/vocab/format") (boolean false))
    ≡ Some (core_vocabulary ∷ [])

-- all rows
pub record DialectRowsHold : Type 0 where
  pub schemes : OtherSchemes
  pub late_schemes : OtherSchemesLate
  pub latest : LatestDraft
  pub fragment : OtherFragment
  pub supplied : SuppliedDecides
  pub followed : FollowedDecides
  pub absent : AbsentIsUnknown
  pub unnamed : UnnamedHasTheDefault
  pub cycle : CycleIsUnknown
  pub subschema : SubschemaKeepsTheDraft
  pub resource : ResourceHasItsDraft
  pub root : UnknownRootIsRefused
  pub target : UnknownTargetIsRefused
  pub on_the_way : UnknownOnTheWayIsRefused
  pub no_validation : NoValidation
  pub optional : OptionalIsIgnored
  pub required : RequiredIsCustom
  pub known : KnownIsInForce
  pub format : FormatHasToBeRequired

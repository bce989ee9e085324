-- The meta-schema that the `$schema` of a schema names among the documents, and the check by it: it
-- checks each document that names it, and the standard's meta-schemas check the others. It is built
-- as any schema is, from the same documents. (Core 2020-12, 8.1.1 and 9.3.3; draft-07 Core, 7)
use Rattle.std.specs.Prelude.{Bool, List, None, Option, Some, [], bytes_eq, false, find, if◌then◌else◌, is_none, option_and_then, unwrap_or, ◌&&◌}
use Rattle.std.specs.Option.{option_or}
use Rattle.serde_json.specs.Data.{Data}
use Rattle.serde_json.specs.View.{view}
use Rattle.serde_json.specs.declared.value.Value.{Value}
use Rattle.theory_definitions.specs.Drafts.{Draft, draft_2020_12}
use Rattle.theory_definitions.specs.Instance.{Text}
use Rattle.schema_traits.specs.declared.keyword.Validate.{Ghosts as KeywordMembers}
use Rattle.schema_traits.specs.declared.matcher.Matcher.{Ghosts as MatcherMembers}
use Rattle.pattern_matcher.specs.declared.treatment.Treatment.{Treatment}
use Rattle.schema_compiled.specs.Program.{Program}
use Rattle.schema_keys.specs.Checking.{MetaChecks}
use Rattle.schema_validator.specs.Handed.{default_options}
use Rattle.standard_dialects.specs.StandardDrafts.{standard_draft}
use Rattle.standard_resolver.specs.Dialects as dialects
use Rattle.standard_resolver.specs.Dialects.{is_unknown, schema_of, text_or_none}
use Rattle.standard_resolver.specs.ResolverDocuments.{GivenDocument, document_of}
use Rattle.standard_subschemas.specs.SubschemaRules.{fragment_of, without_fragment}
use Rattle.meta_checker.specs.Checks.{first_by}
use Rattle.meta_checker.specs.DraftChecks.{DraftPrograms, checked_by}
use Rattle.standard_meta.specs.DraftMeanings.{regexes}
use Rattle.jsonschema.specs.BuildOptions.{BuildOptions}

-- ---- the meta-schema that is named

-- a document is supplied under this URI
abbrev pub is_under : Text → GivenDocument → Bool
is_under uri d = bytes_eq (without_fragment d.uri) uri

-- a text is there, and is this URI
abbrev pub is_same : Text → Option Text → Bool
is_same uri None = false
is_same uri (Some t) = bytes_eq t uri

-- the URI that the identifier of a document's root means, if it has one; the root is read in the
-- draft that its `$schema` names by a standard's URI, or else in the default one
abbrev pub own_uri : Draft → GivenDocument → Option Text
own_uri default d = (dialects.meta_of default (document_of d)).own

-- it is this URI
abbrev pub identifies : Draft → Text → GivenDocument → Bool
identifies default uri d = is_same uri (own_uri default d)

-- the first document that is supplied under a URI, or else the first whose root's identifier means it
abbrev pub document_under : Draft → List GivenDocument → Text → Option GivenDocument
document_under default ds uri = option_or (find (is_under uri) ds) (find (identifies default uri) ds)

-- the document that a `$schema` names; it is no standard's URI, and its fragment is empty
abbrev pub named_by : Draft → List GivenDocument → Text → Option GivenDocument
named_by default ds t = if is_unknown (standard_draft t) && bytes_eq (fragment_of t) [] then document_under default ds (without_fragment t) else None

-- the supplied meta-schema that checks a schema: the one that its `$schema` names, unless its draft is
-- set or it is not checked
abbrev pub meta_for : BuildOptions → Data → Option GivenDocument
meta_for o v = if o.engine.checks && is_none o.engine.draft
    then option_and_then (named_by (unwrap_or o.default_draft draft_2020_12) o.documents) (schema_of v) else None

-- the options by which a supplied meta-schema is built: its own URI, and the same documents
abbrev pub meta_options : BuildOptions → GivenDocument → BuildOptions
meta_options o d = record { engine = default_options; uri = Some d.uri; default_draft = o.default_draft; documents = o.documents }

-- ---- the check

-- the `$schema` of a document is this text
abbrev pub names : Text → Data → Bool
names t v = is_same t (schema_of v)

-- the check by the validator of the meta-schema that this `$schema` names, and by others
abbrev pub checked_beside : {C Run K M : Type 0} → KeywordMembers C Run K → MatcherMembers M → Text → Program C M → MetaChecks → MetaChecks
checked_beside keywords matchers t p others texts draft v = if names t v then first_by keywords matchers p texts v else others texts draft v

-- the checks of a schema by the validator of the supplied meta-schema that it names, and by the
-- standard's meta-schemas, which these programs mean
abbrev pub checks_beside : {C Run K : Type 0} → KeywordMembers C Run K → DraftPrograms C Treatment → Value → Program C Treatment → MetaChecks
checks_beside keywords ps schema p = checked_beside keywords regexes (text_or_none (schema_of (view schema))) p (checked_by keywords regexes ps)

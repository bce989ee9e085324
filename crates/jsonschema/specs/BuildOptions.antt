-- The options of a build: those of the engine, the URI that the schema is found under, the draft of
-- schemas that do not name theirs (both optional), and the documents that references may lead to,
-- each under its URI; and which meta-schemas the check of a schema needs. (Core 2020-12, 8.1.1, 8.2
-- and 9.1)
use Rattle.std.specs.Prelude.{List, None, Option, Some, [], if◌then◌else◌, is_some, true, unwrap_or, ◌≡◌}
use Rattle.serde_json.specs.Data.{Data}
use Rattle.serde_json.specs.declared.value.Value.{Value}
use Rattle.theory_definitions.specs.Drafts.{Draft, draft_2019_09, draft_2020_12, draft_4, draft_6, draft_7, draft_unknown}
use Rattle.theory_definitions.specs.Instance.{Text}
use Rattle.meta_checker.specs.DraftChecks.{DraftPrograms, program_of}
use Rattle.schema_validator.specs.Handed.{Options, default_options}
use Rattle.standard_resolver.specs.ResolverDocuments.{GivenDocument}
use Rattle.standard_subschemas.specs.NamedDrafts.{names_draft_inside}
use Rattle.standard_resolver.specs.Dialects.{draft_said, schema_of}
use Rattle.jsonschema.specs.Sources.{SchemaSources}

pub record BuildOptions : Type 0 where
  pub engine : Options
  pub uri : Option Text
  pub default_draft : Option Draft
  pub documents : List GivenDocument

-- nothing is set; fewer targets nest than by the engine's default, for the stack's sake
abbrev pub no_options : BuildOptions
no_options = record { engine = record default_options { nested = 4 }; uri = None; default_draft = None; documents = [] }

-- the options, with these of the engine
abbrev pub with_engine : BuildOptions → Options → BuildOptions
with_engine o engine = record o { engine = engine }

-- what a schema is built from
abbrev pub sources_of : BuildOptions → Value → SchemaSources
sources_of o schema = record { schema = schema; uri = o.uri; root_draft = o.engine.draft; draft = o.default_draft; documents = o.documents }

-- the draft, if it is one of the standard's
abbrev pub if_known : Draft → Option Draft
if_known draft_4 = Some draft_4
if_known draft_6 = Some draft_6
if_known draft_7 = Some draft_7
if_known draft_2019_09 = Some draft_2019_09
if_known draft_2020_12 = Some draft_2020_12
if_known draft_unknown = None

-- the draft of the root: the one that is set for it, or else the one that its `$schema` names by a
-- standard's URI, or else the default
abbrev pub root_draft_of : BuildOptions → Data → Draft
root_draft_of o schema = unwrap_or o.engine.draft (draft_said (unwrap_or o.default_draft draft_2020_12) (schema_of schema))

-- the one draft whose meta-schema the check of a schema needs; `None` if it may need those of all
-- drafts, because a `$schema` stands inside, or the root's is no standard's URI
abbrev pub needed_draft : BuildOptions → Data → Option Draft
needed_draft o schema = if names_draft_inside schema then None else if_known (root_draft_of o schema)

-- the meta-schema of the draft that is needed is compiled, or those of all drafts
abbrev pub HasNeeded : {C M : Type 0} → Option Draft → DraftPrograms C M → Type 0
HasNeeded (Some d) ps = is_some (program_of ps d) ≡ true
HasNeeded None ps = (d : Draft) → is_some (program_of ps d) ≡ true

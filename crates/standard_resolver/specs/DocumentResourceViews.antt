-- The resources of the code, as values of the definitions.
use Rattle.std.specs.Prelude.{option_map, string_bytes}
use Rattle.schema_drafts.specs.KeywordViews.{draft_of}
use Rattle.standard_resolver.specs.declared.resources as code
use Rattle.standard_resolver.specs.DocumentResources.{Resource}

abbrev pub resource_of : code.Resource.Resource → Resource
resource_of r = record {
  uri = string_bytes r.uri;
  base = string_bytes r.base;
  document = r.document;
  path = r.path;
  draft = draft_of r.draft;
  named = option_map string_bytes r.named;
  recursive = r.is_recursive;
  names = r.names;
}

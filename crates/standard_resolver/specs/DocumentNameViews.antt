-- The names of the code, as values of the definitions.
use Rattle.std.specs.Prelude.{string_bytes}
use Rattle.schema_drafts.specs.KeywordViews.{draft_of}
use Rattle.standard_resolver.specs.declared.names as code
use Rattle.standard_resolver.specs.DocumentResources.{Name}

abbrev pub name_of : code.Name.Name → Name
name_of x = record { name = string_bytes x.name; path = x.path; draft = draft_of x.draft; dynamic = x.is_dynamic }

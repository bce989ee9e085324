-- The dialects of the code, as values of the definitions.
use Rattle.std.specs.Prelude.{option_map, string_bytes}
use Rattle.schema_drafts.specs.KeywordViews.{draft_of}
use Rattle.schema_traits.specs.Readings.{text_read}
use Rattle.standard_resolver.specs.declared.dialects as code
use Rattle.standard_resolver.specs.Dialects.{Dialect, Meta}

abbrev pub dialect_of : code.Dialect.Dialect → Dialect
dialect_of d = record { draft = draft_of d.draft; named = text_read d.named }

-- a meta-schema that the code has read
abbrev pub meta_seen : code.Meta.Meta → Meta
meta_seen m = record { uri = string_bytes m.uri; own = option_map string_bytes m.own; named = text_read m.named }

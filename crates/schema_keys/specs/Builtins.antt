-- The table of the standard's keywords, as the compiler reads it.
use Rattle.std.specs.Prelude.{Option}
use Rattle.theory_definitions.specs.Instance.{Text}
use Rattle.theory_definitions.specs.Drafts.{Draft, Vocabularies}
use Rattle.theory_definitions.specs.Making.{Builtin}
use Rattle.schema_drafts.specs.KeywordTable.{builtin_in}
use Rattle.schema_drafts.specs.declared.keywords.entries.BuiltinRow.{BuiltinRow}

unfoldable pub builtin : Draft → Vocabularies → Text → Option Builtin
builtin draft vocabularies name = builtin_in draft vocabularies name

-- a row of the code's table, as the definitions have it
abbrev pub row_of : Text → BuiltinRow → Builtin
row_of name r = record { name = name; priority = r.priority; is_leaf = r.is_leaf }

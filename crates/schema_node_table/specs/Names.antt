-- Names of keywords as data.
use Rattle.std.specs.Prelude.{string_bytes}
use Rattle.theory_definitions.specs.Instance.{Text}
use Rattle.schema_drafts.specs.KeywordViews.{builtin_text}
use Rattle.schema_node_table.specs.declared.node.name.NameText.{NameText}
use Rattle.schema_node_table.specs.declared.node.name.NameText.TheVariants.{Copied, Known}

abbrev pub text_of : NameText → Text
text_of (Known k) = builtin_text k
text_of (Copied t) = string_bytes t

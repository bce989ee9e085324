use Rattle.std.proofs.Common.{◌≡◌, ◌++◌, length, string_bytes, IsUtf8}
use Rattle.serde_json.specs.Find.{unescape}
use Rattle.standard_subschemas.proofs.pointers.unescaped.Given as goal

abbrev pub invariant-escapes : goal.invariant-escapes
invariant-escapes l = (string_bytes l.text ++ unescape l.rest ≡ unescape l.segment) × IsUtf8 l.rest

abbrev pub decreases-escapes : goal.decreases-escapes
decreases-escapes l = length l.rest

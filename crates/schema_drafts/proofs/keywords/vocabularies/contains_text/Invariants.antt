use Rattle.std.specs.List.{list_any}
use Rattle.std.specs.Prelude.{bytes_eq, drop, map, string_bytes, ◌≡◌}
use Rattle.schema_drafts.proofs.keywords.vocabularies.contains_text.Given as goal

-- if the text is among all the texts, it is among those that are left
abbrev pub invariant-loop-other : goal.invariant-loop-other
invariant-loop-other l = list_any (bytes_eq (string_bytes l.text)) (map string_bytes (drop l.other-index l.texts)) ≡ list_any (bytes_eq (string_bytes l.text)) (map string_bytes l.texts)

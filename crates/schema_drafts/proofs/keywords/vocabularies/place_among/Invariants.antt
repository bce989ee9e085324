use Rattle.std.specs.Prelude.{string_bytes}
use Rattle.schema_drafts.proofs.PlacedTexts.{PlacedFrom}
use Rattle.schema_drafts.proofs.keywords.vocabularies.place_among.Given as goal

-- if the text is inserted among those that are left, it is inserted among all
abbrev pub invariant-loop-i : goal.invariant-loop-i
invariant-loop-i l = PlacedFrom string_bytes l.text l.texts l.i

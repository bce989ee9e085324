use Rattle.std.proofs.Common.{arith, sym, ◌∙◌}
use Rattle.std.specs.Prelude.{string_bytes}
use Rattle.schema_drafts.proofs.PlacedTexts.{placed_first, placed_here, placed_last, placed_later, placed_one_of}
use Rattle.schema_drafts.proofs.keywords.vocabularies.place_among.Goals as goal

pub loop-i-init : goal.loop-i-init
loop-i-init c = placed_first string_bytes c.args.text.now c.args.texts.now

pub loop-i-preserved : goal.loop-i-preserved
loop-i-preserved c =
    placed_later string_bytes c.args.text.now c.args.texts.now c.loop-i.i c.index-texts-i.result (omega arith) c.index-texts-i.is
    (rw c.as_str.ensures.value at (sym c.cmp.ensures ∙ c.in-Greater.is)) c.loop-i.invariant

pub returns-in-Equal : goal.returns-in-Equal
returns-in-Equal c = record {
  place = placed_one_of string_bytes c.args.text.now c.args.texts.now c.loop-i.i c.index-texts-i.result (omega arith) c.index-texts-i.is
      (rw c.as_str.ensures.value at (sym c.cmp.ensures ∙ c.in-Equal.is)) c.loop-i.invariant;
}

pub returns-in-Less : goal.returns-in-Less
returns-in-Less c = record {
  place = (
    omega arith,
    placed_here string_bytes c.args.text.now c.args.texts.now c.loop-i.i c.index-texts-i.result (omega arith) c.index-texts-i.is
        (rw c.as_str.ensures.value at (sym c.cmp.ensures ∙ c.in-Less.is)) c.loop-i.invariant,
  );
}

pub returns : goal.returns
returns c = record { place = (omega arith, placed_last string_bytes c.args.text.now c.args.texts.now c.loop-i.i (omega arith) c.loop-i.invariant) }

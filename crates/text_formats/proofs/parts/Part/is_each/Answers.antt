use Rattle.std.proofs.Common.{◌∙◌, sym}
use Rattle.text_formats.proofs.Parting.{each_goes_on, each_stops}
use Rattle.text_formats.specs.Parts.{is_part}
use Rattle.text_formats.proofs.parts.Part.is_each.Goals as goal

pub returns-then-not-is : goal.returns-then-not-is
returns-then-not-is c = record {
  each = sym (c.loop-part.invariant ∙ each_stops (is_part c.args.self) c.args.mark c.loop-part.rest.now c.in-Some.part.now c.in-Some.left.now c.in-Some.ensures.cut (sym c.if-not-is.ensures.part));
}

pub loop-part-preserved : goal.loop-part-preserved
loop-part-preserved c =
    c.loop-part.invariant ∙ each_goes_on (is_part c.args.self) c.args.mark c.loop-part.rest.now c.in-Some.part.now c.in-Some.left.now c.in-Some.ensures.cut (sym c.if-not-is.ensures.part)

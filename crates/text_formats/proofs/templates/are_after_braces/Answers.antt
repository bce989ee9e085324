use Rattle.std.proofs.Common.{◌∙◌, sym}
use Rattle.text_formats.proofs.Parting.{each_goes_on, each_stops}
use Rattle.text_formats.specs.Templates.{is_after_brace}
use Rattle.text_formats.proofs.templates.are_after_braces.Goals as goal

pub returns-then-not-is_after_brace : goal.returns-then-not-is_after_brace
returns-then-not-is_after_brace c = record {
  each = sym (c.loop-part.invariant ∙ each_stops is_after_brace 123 c.loop-part.rest.now c.in-Some.part.now c.in-Some.left.now c.in-Some.ensures.cut (sym c.if-not-is_after_brace.ensures.after));
}

pub loop-part-preserved : goal.loop-part-preserved
loop-part-preserved c =
    c.loop-part.invariant ∙ each_goes_on is_after_brace 123 c.loop-part.rest.now c.in-Some.part.now c.in-Some.left.now c.in-Some.ensures.cut (sym c.if-not-is_after_brace.ensures.after)

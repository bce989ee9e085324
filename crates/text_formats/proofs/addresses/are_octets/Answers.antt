use Rattle.std.proofs.Common.{◌∙◌, sym}
use Rattle.text_formats.proofs.Parting.{each_goes_on, each_stops}
use Rattle.text_formats.specs.Addresses.{is_octet}
use Rattle.text_formats.proofs.addresses.are_octets.Goals as goal

pub returns-then-not-is_octet : goal.returns-then-not-is_octet
returns-then-not-is_octet c = record {
  each = sym (c.loop-part.invariant ∙ each_stops is_octet 46 c.loop-part.rest.now c.in-Some.part.now c.in-Some.left.now
      c.in-Some.ensures.cut (sym c.if-not-is_octet.ensures.octet));
}

pub loop-part-preserved : goal.loop-part-preserved
loop-part-preserved c =
    c.loop-part.invariant ∙ each_goes_on is_octet 46 c.loop-part.rest.now c.in-Some.part.now c.in-Some.left.now
    c.in-Some.ensures.cut (sym c.if-not-is_octet.ensures.octet)

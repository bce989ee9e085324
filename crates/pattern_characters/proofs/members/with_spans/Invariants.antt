use Rattle.std.proofs.Common.{◌≡◌, length}
use Rattle.unicode.specs.Rows.{AreRanges}
use Rattle.pattern_characters.specs.Sets.{with_spans}
use Rattle.pattern_characters.proofs.members.with_spans.Given as goal

abbrev pub invariant-loop-rest : goal.invariant-loop-rest
invariant-loop-rest l = record {
  ranges : AreRanges l.rest;
  same : with_spans l.spans.items.items l.rest ≡ with_spans l.fn.spans.items.items l.ranges;
}

abbrev pub decreases-loop-rest : goal.decreases-loop-rest
decreases-loop-rest l = length l.rest

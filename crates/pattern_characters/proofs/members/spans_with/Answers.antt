use Rattle.std.proofs.Common.{ap, ◌∙◌, []}
use Rattle.pattern_trees.specs.Sets.{in_set}
use Rattle.pattern_characters.specs.Sets.{Spans, with_more, unless}
use Rattle.pattern_characters.proofs.OfMembers.{of_set}
use Rattle.pattern_characters.proofs.members.spans_with.Goals as goal

pub returns : goal.returns
returns c = record {
  spans =
      c.in_ok-spans_of.ensures.spans
      ∙ ap (λ (v : Spans). with_more [] (λ d. unless c.args.negated (in_set v d))) c.as_slice.ensures.value
      ∙ of_set c.in_ok-ranges.ranges.items c.args.set c.args.negated c.in_ok-ranges.ensures.members;
}

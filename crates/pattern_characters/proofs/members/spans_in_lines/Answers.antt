use Rattle.std.proofs.Common.{ap, ◌∙◌}
use Rattle.pattern_trees.specs.Patterns.{is_line_end}
use Rattle.pattern_characters.specs.Sets.{Spans, with_more, others}
use Rattle.pattern_characters.proofs.OfMembers.{no_line_ends}
use Rattle.pattern_characters.proofs.members.spans_in_lines.Goals as goal

pub returns : goal.returns
returns c = record {
  others =
      c.in_ok-others.ensures.others
      ∙ ap others (c.in_ok-ends.ensures.more ∙ ap (λ (v : Spans). with_more v is_line_end) c.new.ensures.none)
      ∙ no_line_ends;
}

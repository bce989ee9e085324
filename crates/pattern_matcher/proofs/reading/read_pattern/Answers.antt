use Rattle.std.proofs.Common.{ap, option_map, ◌∙◌}
use Rattle.pattern_matcher.proofs.Finding.{read_alike}
use Rattle.pattern_matcher.specs.ReadViews.{reading_seen}
use Rattle.pattern_matcher.proofs.reading.read_pattern.Goals as goal

pub returns : goal.returns
returns c = record {
  reading = ap (option_map reading_seen) c.ok.ensures.value
      ∙ read_alike c.args.text.now _ _ (c.as_slice.ensures.value ∙ c.in_ok-chars.ensures.chars) c.in_ok-reading.ensures.read;
}

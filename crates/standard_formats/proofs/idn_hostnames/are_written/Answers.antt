use Rattle.std.proofs.Common.{rules, tests}
use Rattle.std.proofs.lemmas.Iterator.Search.{all_from_yields_List}
use Rattle.std.proofs.lemmas.Iterator.Splits.{YieldsList-from_slice_split}
use Rattle.standard_formats.specs.IdnHostnames.{is_separator, is_written}
use Rattle.standard_formats.proofs.idn_hostnames.are_written.Goals as goal

pub returns : goal.returns
returns c = record {
  written = all_from_yields_List is_written _ _ _ c.all.ensures.ran
      (YieldsList-from_slice_split _ is_separator c.args.name.now c.split.ensures.rest c.split.ensures.done c.split.ensures.closure (λ x r q k. search (rules, tests)))
      (λ x r q k. search (rules, tests));
}

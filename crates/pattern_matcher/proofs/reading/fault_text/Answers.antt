use Rattle.std.proofs.Common.{Some, ap, option_map, sym, ◌∙◌}
use Rattle.pattern_reader.specs.Errors.{error_text}
use Rattle.pattern_matcher.proofs.Finding.{fault_alike}
use Rattle.pattern_matcher.proofs.reading.fault_text.Goals as goal

pub returns-in-Some : goal.returns-in-Some
returns-in-Some c = record {
  fault = ap Some c.in_ok-format-in-Some.ensures.ok
      ∙ (ap (option_map error_text) (sym c.in-Some.is ∙ c.err.ensures.value)
      ∙ fault_alike c.args.text.now _ _ (c.as_slice.ensures.value ∙ c.in_ok-chars.ensures.chars) c.in_ok-reading.ensures.read);
}

pub returns : goal.returns
returns c = record {
  fault = ap (option_map error_text) (sym c.in-None.is ∙ c.err.ensures.value)
      ∙ fault_alike c.args.text.now _ _ (c.as_slice.ensures.value ∙ c.in_ok-chars.ensures.chars) c.in_ok-reading.ensures.read;
}

use Rattle.std.proofs.Common.{◌∙◌, ◌++◌, ap, lit<, sym}
use Rattle.std.proofs.lemmas.Str.Pattern.{strip_prefix_char}
use Rattle.standard_outputs.specs.KeywordUnits.{after_slash}
use Rattle.standard_outputs.proofs.Slashes.{after_other, after_outer, by_slash}
use Rattle.standard_outputs.proofs.keyword_units.after_slash.Goals as goal

pub returns-in-Some : goal.returns-in-Some
returns-in-Some c =
    let outer = c.args.outer.now in
    let rest = c.in-Some.rest.now in
    let cut = rw c.in-Some.is at c.strip_prefix.ensures.cases in
    let whole = cut.1.1 ∙ ap (λ t. outer ++ t) (sym cut.2) in
    record {
      rest = by_slash rest c.strip_prefix-in-Some.result (strip_prefix_char 47 rest c.strip_prefix-in-Some.result c.strip_prefix-in-Some.ensures.cases (lit< tt))
          ∙ sym (after_outer outer rest) ∙ ap (after_slash outer) (sym whole);
    }

pub returns-in-None : goal.returns-in-None
returns-in-None c =
    let none = rw c.in-None.is at c.strip_prefix.ensures.cases in
    record { rest = sym (after_other c.args.outer.now c.args.path.now none) }

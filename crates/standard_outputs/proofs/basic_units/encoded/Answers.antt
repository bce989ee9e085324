use Rattle.std.proofs.Common.{◌++◌, ◌∙◌, ◌∷◌, ap, lit<, sym}
use Rattle.std.proofs.lemmas.Result.{IfOk-weaker}
use Rattle.std.proofs.lemmas.Str.Pattern.{strip_prefix_char}
use Rattle.theory_definitions.specs.Plan.{encoded}
use Rattle.standard_outputs.proofs.Slashes.{same_tail}
use Rattle.standard_outputs.proofs.basic_units.encoded.Goals as goal

pub returns-in-Some : goal.returns-in-Some
returns-in-Some c =
    let cut = rw c.in-Some.is at (strip_prefix_char 35 c.as_str.result.now c.strip_prefix.result c.strip_prefix.ensures.cases (lit< tt)) in
    let rest = c.in-Some.text.now in
    let whole = sym cut ∙ c.as_str.ensures.value ∙ c.in_ok-push_fragment.ensures.added ∙ ap (λ t. t ++ 35 ∷ encoded c.args.segment.now) c.new-fragment.ensures.bytes in
    record { encoded = IfOk-weaker c.from_str.result _ _ (λ _ e. e ∙ same_tail 35 rest (encoded c.args.segment.now) whole) c.from_str.ensures.ok }

pub returns : goal.returns
returns c =
    let none = rw c.in-None.is at (strip_prefix_char 35 c.as_str.result.now c.strip_prefix.result c.strip_prefix.ensures.cases (lit< tt)) in
    absurd (none (encoded c.args.segment.now) (c.as_str.ensures.value ∙ c.in_ok-push_fragment.ensures.added ∙ ap (λ t. t ++ 35 ∷ encoded c.args.segment.now) c.new-fragment.ensures.bytes))

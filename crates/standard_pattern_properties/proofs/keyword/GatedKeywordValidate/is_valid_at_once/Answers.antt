use Rattle.std.proofs.Common.{◌≡◌, rules, subst, sym, true}
use Rattle.schema_reports.specs.InstanceViews.{subject_of}
use Rattle.schema_traits.specs.AtOnce.{EndsAtOnce}
use Rattle.schema_traits.specs.KeywordViews.{is_nil}
use Rattle.standard_pattern_properties.specs.GateLaws.{gated_words}
use Rattle.standard_pattern_properties.specs.GatedKeywords.{form_of, gates_of, names_of}
use Rattle.standard_pattern_properties.specs.declared.keyword.GatedKeyword.TheVariants.{NoAdditionalProperties}
use Rattle.standard_pattern_properties.proofs.AtOnce.{nil_list, told_at_once}
use Rattle.standard_pattern_properties.proofs.keyword.GatedKeywordValidate.is_valid_at_once.Goals as goal

pub returns-then-is_empty : goal.returns-then-is_empty
returns-then-is_empty c =
    let beside = c.in-NoAdditionalProperties.beside in let s = subject_of c.args.instance in
    let none : is_nil beside.patterns ≡ true = search rules in
    record {
      at_once = λ texts h. subst (λ k. EndsAtOnce (gated_words gates_of form_of names_of texts) k s c.lists_each.result) (sym c.in-NoAdditionalProperties.is)
          (subst (EndsAtOnce (gated_words gates_of form_of names_of texts) (NoAdditionalProperties beside) s) (sym c.lists_each.ensures.lists)
          (told_at_once texts beside s (nil_list beside.patterns none)));
    }

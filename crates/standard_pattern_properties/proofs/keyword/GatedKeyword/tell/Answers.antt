use Rattle.std.proofs.Common.{◌∙◌, ◌≡◌, [], Bool, ap, length, map, rules, string_bytes, sym}
use Rattle.std.specs.Prelude.{codes}
use Rattle.std.proofs.lemmas.Result.{IfOk-weaker}
use Rattle.theory_definitions.specs.Keywords.{own}
use Rattle.schema_reports.specs.ReportViews.{spoken}
use Rattle.schema_traits.specs.KeywordViews.{answer_of}
use Rattle.keyword_authoring.specs.Ways.{noted, noted_one, plain}
use Rattle.standard_pattern_properties.specs.GatedKeywords.{form_of, unexpected_text}
use Rattle.standard_pattern_properties.specs.GateMoves.{told_in}
use Rattle.standard_pattern_properties.proofs.Seeking.{no_names, told_some}
use Rattle.standard_pattern_properties.proofs.keyword.GatedKeyword.tell.Goals as goal

pub returns-in_ok-text-in-NoAdditionalProperties-clause-told :
    goal.returns-in_ok-text-in-NoAdditionalProperties-clause-told
returns-in_ok-text-in-NoAdditionalProperties-clause-told c =
    let names = map string_bytes c.args.names.now in let called = codes "additionalProperties" in
    let some : names ≡ [] → ⊥ = λ e. (let none : length c.args.names.now ≡ 0 = no_names c.args.names.now e in search rules) in
    let so : (texts : Bool) → told_in texts (form_of c.args.self.now) c.args.mode (answer_of texts c.args.answer.now) names
    ≡ noted_one c.args.mode (answer_of texts c.args.answer.now) (own (plain called (spoken texts (string_bytes (c.in_ok-text-in-NoAdditionalProperties).text))))
    = λ texts. ap (λ k. told_in texts (form_of k) c.args.mode (answer_of texts c.args.answer.now) names) c.in-NoAdditionalProperties.is
    ∙ (ap (λ ts. noted c.args.mode called (answer_of texts c.args.answer.now) (map (spoken texts) ts)) (told_some unexpected_text names some)
    ∙ ap (λ t. noted_one c.args.mode (answer_of texts c.args.answer.now) (own (plain called (spoken texts t)))) (sym (c.in_ok-text-in-NoAdditionalProperties).ensures.text)) in
    IfOk-weaker c.note.result _ _ (λ x h texts. h texts ∙ sym (so texts)) c.note.ensures.noted

use Rattle.std.proofs.Common.{◌∙◌, ap, string_bytes, sym}
use Rattle.theory_definitions.specs.Keywords.{own}
use Rattle.schema_reports.specs.ReportViews.{spoken}
use Rattle.schema_traits.specs.KeywordViews.{answer_of}
use Rattle.keyword_authoring.specs.Ways.{noted_one, plain}
use Rattle.keyword_authoring.proofs.ToldTexts.{noted_then}
use Rattle.keyword_authoring.proofs.leaves.note_each.Goals as goal

pub loop-text-preserved : goal.loop-text-preserved
loop-text-preserved c = record {
  told = λ texts. c.in_ok-note.ensures.noted texts
      ∙ (ap (λ a. noted_one c.args.mode a (own (plain c.args.name.now (spoken texts (string_bytes c.in-Some.text))))) (c.loop-text.invariant.told texts)
      ∙ sym (noted_then (λ text. spoken texts (string_bytes text)) c.args.mode c.args.name.now (answer_of texts c.args.answer.now) c.loop-text.yielded c.in-Some.text));
  borrows = λ root faults. c.in_ok-note.ensures.borrows root (c.loop-text.invariant.borrows root faults);
}

use Rattle.std.proofs.Common.{true, false, ◌+◌, ◌∙◌, ◌≡◌, ◌<◌, ◌∷◌, ap, codes, drop, length, rules, sym}
use Rattle.std.specs.List.{list_any}
use Rattle.schema_traits.specs.declared.keyword.Mode.TheVariants as mode
use Rattle.schema_reports.specs.InstanceViews.{subject_of}
use Rattle.schema_traits.specs.KeywordViews.{answer_of}
use Rattle.schema_traits.proofs.Drops.{drop_at}
use Rattle.theory_definitions.specs.Keywords.{own}
use Rattle.schema_reports.specs.ReportViews.{spoken}
use Rattle.keyword_authoring.specs.Ways.{noted, noted_one, plain}
use Rattle.standard_applicators.specs.Wanting.{is_unmet}
use Rattle.standard_applicators.proofs.UnmetWants.{none_unmet, some_unmet, texts_later, told_texts, told_unmet}
use Rattle.standard_applicators.proofs.wants.tell_unmet.Goals.{then-is_unmet+in_ok-text+in_ok-note, else-is_unmet}
use Rattle.standard_applicators.proofs.wants.tell_unmet.Goals as goal

pub loop-want-preserved : goal.loop-want-preserved
loop-want-preserved c = record {
  told = λ texts. elim c.if-is_unmet.branch [
    | then-is_unmet+in_ok-text+in_ok-note w ↦
        let within : c.loop-want.want-index < length c.args.wants.now = search rules in
        let left : drop c.loop-want.want-index c.args.wants.now ≡ c.want-item.result ∷ drop (c.loop-want.want-index + 1) c.args.wants.now = drop_at c.args.wants.now c.loop-want.want-index c.want-item.result within (search rules) in
        let more = told_unmet texts (subject_of c.args.instance) c.args.mode (answer_of texts c.loop-want.answer) (answer_of texts w.note.new.answer) c.want-item.result (drop (c.loop-want.want-index + 1) c.args.wants.now)
        (search rules) (w.in_ok-note.ensures.noted texts ∙ ap (λ t. noted_one c.args.mode (answer_of texts c.loop-want.answer) (own (plain (codes "dependencies") (spoken texts t)))) w.in_ok-text.ensures.text) in
        c.loop-want.invariant.told texts
        ∙ ap (λ l. noted c.args.mode (codes "dependencies") (answer_of texts c.loop-want.answer) (told_texts texts (subject_of c.args.instance) l)) left
        ∙ more
        ∙ ap (λ a. noted c.args.mode (codes "dependencies") (answer_of texts a) (told_texts texts (subject_of c.args.instance) (drop (c.loop-want.want-index + 1) c.args.wants.now))) (sym w.answer-is)
    | else-is_unmet w ↦
        let within : c.loop-want.want-index < length c.args.wants.now = search rules in
        let left : drop c.loop-want.want-index c.args.wants.now ≡ c.want-item.result ∷ drop (c.loop-want.want-index + 1) c.args.wants.now = drop_at c.args.wants.now c.loop-want.want-index c.want-item.result within (search rules) in
        let more = texts_later texts (subject_of c.args.instance) c.want-item.result (drop (c.loop-want.want-index + 1) c.args.wants.now) (search rules) in
        c.loop-want.invariant.told texts
        ∙ ap (λ l. noted c.args.mode (codes "dependencies") (answer_of texts c.loop-want.answer) (told_texts texts (subject_of c.args.instance) l)) left
        ∙ ap (noted c.args.mode (codes "dependencies") (answer_of texts c.loop-want.answer)) more
        ∙ ap (λ a. noted c.args.mode (codes "dependencies") (answer_of texts a) (told_texts texts (subject_of c.args.instance) (drop (c.loop-want.want-index + 1) c.args.wants.now))) (sym w.answer-is)
  ];
  borrows = λ root faults. elim c.if-is_unmet.branch [
    | then-is_unmet+in_ok-text+in_ok-note w ↦ rw w.answer-is (w.in_ok-note.ensures.borrows root (c.loop-want.invariant.borrows root faults))
    | else-is_unmet w ↦ rw w.answer-is (c.loop-want.invariant.borrows root faults)
  ];
}

pub returns-then-has_unmet-clause-told : goal.returns-then-has_unmet-clause-told
returns-then-has_unmet-clause-told c = λ texts.
    let is : c.args.mode ≡ mode.Verdict = search rules in
    let lacks : list_any (is_unmet (subject_of c.args.instance)) c.args.wants.now ≡ true = search rules in
    rw is (c.refuse.ensures.refused texts ∙ sym (some_unmet texts (subject_of c.args.instance) (answer_of texts c.args.answer.now) c.args.wants.now lacks))

pub returns-else-has_unmet-clause-told : goal.returns-else-has_unmet-clause-told
returns-else-has_unmet-clause-told c = λ texts.
    let is : c.args.mode ≡ mode.Verdict = search rules in
    let lacks : list_any (is_unmet (subject_of c.args.instance)) c.args.wants.now ≡ false = search rules in
    rw is (sym (none_unmet texts (subject_of c.args.instance) (answer_of texts c.args.answer.now) c.args.wants.now lacks))

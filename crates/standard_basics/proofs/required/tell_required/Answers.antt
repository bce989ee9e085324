use Rattle.std.proofs.Common.{true, false, ◌+◌, ◌∙◌, ◌≡◌, ◌<◌, ◌∷◌, ap, codes, drop, length, map, rules, string_bytes, sym}
use Rattle.std.specs.List.{list_any}
use Rattle.schema_traits.specs.declared.keyword.Mode.TheVariants as mode
use Rattle.schema_reports.specs.InstanceViews.{subject_of}
use Rattle.schema_reports.specs.ReportViews.{spoken}
use Rattle.schema_traits.specs.KeywordViews.{answer_of}
use Rattle.schema_traits.proofs.Drops.{drop_at}
use Rattle.keyword_authoring.specs.Ways.{noted}
use Rattle.standard_basics.specs.Words.{missing, required_text}
use Rattle.standard_basics.proofs.MissingNames.{lacks_it, lacks_none, lacks_some, missing_later, told_missing}
use Rattle.standard_basics.proofs.required.tell_required.Goals.{then-is_missing+in_ok-text+in_ok-note, else-is_missing}
use Rattle.standard_basics.proofs.required.tell_required.Goals as goal

pub loop-name-preserved : goal.loop-name-preserved
loop-name-preserved c = record {
  told = λ texts. elim c.if-is_missing.branch [
    | then-is_missing+in_ok-text+in_ok-note w ↦
        let within : c.loop-name.name-index < length c.args.names.now = search rules in
        let left : drop c.loop-name.name-index c.args.names.now ≡ c.name-item.result ∷ drop (c.loop-name.name-index + 1) c.args.names.now = drop_at c.args.names.now c.loop-name.name-index c.name-item.result within (search rules) in
        let more = told_missing texts c.args.mode (answer_of texts c.loop-name.answer) (answer_of texts w.note.new.answer) (string_bytes c.name-item.result) (map string_bytes (drop (c.loop-name.name-index + 1) c.args.names.now)) (subject_of c.args.instance)
        (search rules) (let noted_here = w.in_ok-note.ensures.noted texts in search rules) in
        c.loop-name.invariant.told texts
        ∙ ap (λ l. noted c.args.mode (codes "required") (answer_of texts c.loop-name.answer) (map (λ k. spoken texts (required_text k)) (missing (map string_bytes l) (subject_of c.args.instance)))) left
        ∙ more
        ∙ ap (λ a. noted c.args.mode (codes "required") (answer_of texts a) (map (λ k. spoken texts (required_text k)) (missing (map string_bytes (drop (c.loop-name.name-index + 1) c.args.names.now)) (subject_of c.args.instance)))) (sym w.answer-is)
    | else-is_missing w ↦
        let within : c.loop-name.name-index < length c.args.names.now = search rules in
        let left : drop c.loop-name.name-index c.args.names.now ≡ c.name-item.result ∷ drop (c.loop-name.name-index + 1) c.args.names.now = drop_at c.args.names.now c.loop-name.name-index c.name-item.result within (search rules) in
        let more = missing_later (string_bytes c.name-item.result) (map string_bytes (drop (c.loop-name.name-index + 1) c.args.names.now)) (subject_of c.args.instance) (search rules) in
        c.loop-name.invariant.told texts
        ∙ ap (λ l. noted c.args.mode (codes "required") (answer_of texts c.loop-name.answer) (map (λ k. spoken texts (required_text k)) (missing (map string_bytes l) (subject_of c.args.instance)))) left
        ∙ ap (λ l. noted c.args.mode (codes "required") (answer_of texts c.loop-name.answer) (map (λ k. spoken texts (required_text k)) l)) more
        ∙ ap (λ a. noted c.args.mode (codes "required") (answer_of texts a) (map (λ k. spoken texts (required_text k)) (missing (map string_bytes (drop (c.loop-name.name-index + 1) c.args.names.now)) (subject_of c.args.instance)))) (sym w.answer-is)
  ];
  borrows = λ root faults. elim c.if-is_missing.branch [
    | then-is_missing+in_ok-text+in_ok-note w ↦ rw w.answer-is (w.in_ok-note.ensures.borrows root (c.loop-name.invariant.borrows root faults))
    | else-is_missing w ↦ rw w.answer-is (c.loop-name.invariant.borrows root faults)
  ];
}

pub returns-then-lacks_one-clause-told : goal.returns-then-lacks_one-clause-told
returns-then-lacks_one-clause-told c = λ texts.
    let is : c.args.mode ≡ mode.Verdict = search rules in
    let lacks : list_any (lacks_it string_bytes (subject_of c.args.instance)) c.args.names.now ≡ true = search rules in
    rw is (c.refuse.ensures.refused texts ∙ sym (lacks_some string_bytes texts (subject_of c.args.instance) (answer_of texts c.args.answer.now) c.args.names.now lacks))

pub returns-else-lacks_one-clause-told : goal.returns-else-lacks_one-clause-told
returns-else-lacks_one-clause-told c = λ texts.
    let is : c.args.mode ≡ mode.Verdict = search rules in
    let lacks : list_any (lacks_it string_bytes (subject_of c.args.instance)) c.args.names.now ≡ false = search rules in
    rw is (sym (lacks_none string_bytes texts (subject_of c.args.instance) (answer_of texts c.args.answer.now) c.args.names.now lacks))

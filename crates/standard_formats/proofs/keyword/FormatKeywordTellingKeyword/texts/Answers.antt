use Rattle.std.proofs.Common.{[], ap, length, string_bytes, sym, ◌∙◌, ◌∷◌, ◌≡◌}
use Rattle.std.proofs.lemmas.List.{length-map}
use Rattle.schema_traits.proofs.Replies.{if_ok_mono}
use Rattle.schema_reports.specs.InstanceViews.{subject_of}
use Rattle.standard_formats.specs.FormatWords.{error_text, error_texts}
use Rattle.standard_formats.proofs.Told.{told_once}
use Rattle.standard_formats.proofs.keyword.FormatKeywordTellingKeyword.texts.Goals as goal

pub returns-clause-count : goal.returns-clause-count
returns-clause-count c =
    let once : error_texts c.args.self.now (subject_of c.args.instance) ≡ error_text c.args.self.now (subject_of c.args.instance) ∷ [] =
    told_once c.args.self.now (subject_of c.args.instance) c.requires.refuses in
    if_ok_mono c.one_text.result _ _ (λ found one. sym (length-map found.items string_bytes) ∙ ap length one ∙ sym (ap length once)) c.one_text.ensures.one

pub returns-clause-texts : goal.returns-clause-texts
returns-clause-texts c =
    let once : error_texts c.args.self.now (subject_of c.args.instance) ≡ error_text c.args.self.now (subject_of c.args.instance) ∷ [] =
    told_once c.args.self.now (subject_of c.args.instance) c.requires.refuses in
    if_ok_mono c.one_text.result _ _ (λ found one shows whole. one ∙ ap (λ t. t ∷ []) (c.in_ok-text.ensures.text whole) ∙ sym once) c.one_text.ensures.one

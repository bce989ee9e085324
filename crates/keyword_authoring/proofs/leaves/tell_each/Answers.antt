use Rattle.std.proofs.Common.{◌∙◌, ap, map, string_bytes}
use Rattle.schema_reports.specs.InstanceViews.{subject_of}
use Rattle.schema_reports.specs.ReportViews.{spoken}
use Rattle.schema_traits.specs.KeywordViews.{answer_of}
use Rattle.keyword_authoring.specs.Ways.{noted}
use Rattle.keyword_authoring.proofs.ToldTexts.{told_texts}
use Rattle.keyword_authoring.proofs.leaves.tell_each.Goals as goal

pub returns-clause-told : goal.returns-clause-told
returns-clause-told g c =
    let shape = g.T.TellingKeyword.shape c.args.keyword.now in
    let s = subject_of c.args.instance in
    λ texts tells. c.in_ok-note_each.ensures.noted texts
    ∙ (ap (λ name. noted c.args.mode name (answer_of texts c.args.answer.now) (map (λ text. spoken texts (string_bytes text)) c.in_ok-found.found.items)) c.name.ensures.name
    ∙ ap (noted c.args.mode (g.T.TellingKeyword.called shape) (answer_of texts c.args.answer.now))
    (told_texts string_bytes (g.T.TellingKeyword.shows_no_fraction shape) s c.in_ok-found.found.items (g.T.TellingKeyword.error_texts shape s) texts
    c.in_ok-found.ensures.count c.in_ok-found.ensures.texts tells))

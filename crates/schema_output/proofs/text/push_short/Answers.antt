use Rattle.std.proofs.Common.{◌≡◌, ◌++◌, ◌∷◌, ◌∙◌, [], ap, append-nil, option_copied, string_bytes, sym, true}
use Rattle.std.proofs.lemmas.Result.{IfOk-equal}
use Rattle.schema_reports.specs.UnitViews.{report_in}
use Rattle.schema_output.specs.Texts.{places_text}
use Rattle.schema_output.proofs.Pushes.{behind}
use Rattle.schema_output.proofs.Shorts.{error_if, first_error, text_short}
use Rattle.schema_output.proofs.text.push_short.Goals as goal
use Rattle.schema_output.proofs.text.push_short.Goals.{in-Some+in_ok-push_error, in_default}

pub returns : goal.returns
returns c =
    let r = c.args.report.now in
    let o0 = string_bytes c.args.out.now in
    let o1 = string_bytes c.push_str.new.self in
    let o2 = string_bytes c.match-first.out in
    let found : error_if (option_copied c.first.result) ≡ first_error r.errors.items = ap error_if c.first.ensures.value ∙ ap first_error c.deref.ensures.value in
    let added : o2 ≡ o1 ++ first_error r.errors.items =
    elim c.match-first.branch [
      | in-Some+in_ok-push_error w ↦ ap string_bytes w.out-is ∙ w.in_ok-push_error.ensures.error ∙ ap (λ o. o1 ++ error_if (option_copied o)) (sym w.in-Some.is) ∙ ap (λ s. o1 ++ s) found
      | in_default w ↦ ap string_bytes w.out-is ∙ sym (append-nil o1) ∙ ap (λ o. o1 ++ error_if (option_copied o)) (sym w.in_default.is) ∙ ap (λ s. o1 ++ s) found
    ] in
    let places = places_text (report_in true r) in
    record {
      pushed = IfOk-equal c.push_places.result _ (o2 ++ places) _ c.push_places.ensures.places
          (behind o1 o2 (first_error r.errors.items) added places ∙ behind o0 o1 (123 ∷ []) c.in_ok-push_str.ensures.bytes (first_error r.errors.items ++ places)
          ∙ ap (λ s. o0 ++ s) (sym (text_short r c.requires.short.0 c.requires.short.1)));
    }

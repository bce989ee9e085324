use Rattle.std.proofs.Common.{◌≡◌, ◌++◌, ◌∙◌, ap, string_bytes, subst, sym, true}
use Rattle.theory_definitions.specs.Reports.{report_of}
use Rattle.schema_reports.specs.UnitViews.{unit_of}
use Rattle.schema_output.specs.Output.{output_list, unit_object}
use Rattle.schema_output.specs.Texts.{Follow, IsJsonText, Prints, closing, objects_below, opening}
use Rattle.schema_output.proofs.Following.{list_prints}
use Rattle.schema_output.proofs.Opened.{seen}
use Rattle.schema_output.proofs.text.output_text.Goals as goal

pub returns : goal.returns
returns c =
    let root = c.args.root.now in
    let u = unit_of true root in
    let o1 = string_bytes c.push_unit.new.out in
    let o2 = string_bytes c.push_below.new.out in
    let made = c.in_ok-push_unit.ensures.pushed in
    let first = made.0 in
    let prints : Prints (unit_object (report_of u)) first = subst (λ v. Prints (unit_object (report_of v)) first) (sym (seen root)) made.1 in
    let start : o1 ≡ opening ++ first = made.2 ∙ ap (λ s. s ++ first) c.in_ok-out.ensures.ok in
    let below : Follow (objects_below u) (opening ++ first) o2 = subst (λ s. Follow (objects_below u) s o2) start c.in_ok-push_below.ensures.pushed in
    let ended : string_bytes c.push_str.new.self ≡ o2 ++ closing (report_of u).valid =
    c.in_ok-push_str.ensures.bytes ∙ ap (λ s. o2 ++ s) (c.closing.ensures.text ∙ ap (λ v. closing (report_of v).valid) (sym (seen root))) in
    record { text = subst (IsJsonText (output_list u)) (sym ended) (list_prints u first o2 prints below) }

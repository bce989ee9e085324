-- Errors that are printed one after the other, until none is left.
use Rattle.std.proofs.Common.{Bool, List, [], ap, append-nil, false, map, refl, sym, true, ◌&&◌, ◌++◌, ◌∙◌, ◌≡◌}
use Rattle.theory_definitions.specs.Instance.{Text}
use Rattle.schema_reports.specs.ReportViews.{error_of}
use Rattle.schema_reports.specs.declared.reports.ValidationError.{ValidationError}
use Rattle.schema_traits.specs.KeywordViews.{is_nil}
use Rattle.bench_program.specs.ProgramTexts.{errors_text}

pub all_printed : (all left : List ValidationError) (text : Text) → errors_text (map (error_of true) all) ≡ text ++ errors_text (map (error_of true) left) → left ≡ []
    → text ≡ errors_text (map (error_of true) all)
all_printed all left text kept none = sym (kept ∙ (ap (λ es. text ++ errors_text (map (error_of true) es)) none ∙ append-nil text))

and_true : (b : Bool) → b && true ≡ b
and_true true = refl
and_true false = refl

pub all_counted : (all left : List ValidationError) (accepted : Bool) → is_nil all ≡ (accepted && is_nil left) → left ≡ [] → accepted ≡ is_nil all
all_counted all left accepted kept none = sym (kept ∙ (ap (λ es. accepted && is_nil es) none ∙ and_true accepted))

and_false : (b : Bool) → b && false ≡ false
and_false true = refl
and_false false = refl

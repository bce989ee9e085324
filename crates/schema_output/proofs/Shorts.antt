-- The text of a unit that has no annotations and one error at most.
use Rattle.std.proofs.Common.{◌≡◌, ◌≤◌, true, List, [], ◌∷◌, ◌++◌, None, Option, Some, length, map, option_map, refl, slice_get, sym, ap, ap₂, ◌∙◌, subst, arith, append_assoc}
use Rattle.serde_json.specs.View.{view}
use Rattle.serde_json.specs.Written.{compact_text, outline}
use Rattle.serde_json.proofs.OnLiterals.{serde_json_on_literals}
use Rattle.serde_json.proofs.Texts.{print-outline}
use Rattle.theory_definitions.specs.Instance.{Text}
use Rattle.theory_definitions.specs.Reports.{Described, Report}
use Rattle.schema_reports.specs.UnitViews.{described_of, report_in}
use Rattle.schema_reports.specs.declared.evaluation.ErrorDescription.{ErrorDescription}
use Rattle.schema_reports.specs.declared.evaluation.UnitReport.{UnitReport}
use Rattle.schema_output.specs.Output.{unit_object}
use Rattle.schema_output.specs.Texts.{Prints, error_text, places_text}

-- the report with these errors and no annotations
abbrev short : Report → List Described → Report
short r ds = record r { annotations = None; errors = ds }

-- the member of an error, if there is one
abbrev pub error_if : Option ErrorDescription → Text
error_if None = []
error_if (Some e) = error_text (described_of true e)

abbrev pub first_error : List ErrorDescription → Text
first_error es = error_if (slice_get es 0)

text_without_error : (r : Report) → compact_text (unit_object (short r [])) ≡ 123 ∷ places_text r
unfolding serde_json_on_literals
text_without_error r = refl

text_with_error : (r : Report) (d : Described) → compact_text (unit_object (short r (d ∷ []))) ≡ 123 ∷ (error_text d ++ places_text r)
unfolding serde_json_on_literals
text_with_error r d = simp append_assoc

prints_without_error : (r : Report) → Prints (unit_object (short r [])) (compact_text (unit_object (short r [])))
unfolding serde_json_on_literals
prints_without_error r = record {
  json = outline (unit_object (short r []));
  printed = sym (print-outline (unit_object (short r [])));
  numbers = (tt, (tt, (tt, (tt, tt))));
  same = refl;
  reads = λ shallow. refl;
}

prints_with_error : (r : Report) (d : Described) → Prints (unit_object (short r (d ∷ []))) (compact_text (unit_object (short r (d ∷ []))))
unfolding serde_json_on_literals
prints_with_error r d = record {
  json = outline (unit_object (short r (d ∷ [])));
  printed = sym (print-outline (unit_object (short r (d ∷ []))));
  numbers = ((tt, tt), (tt, (tt, (tt, (tt, tt)))));
  same = refl;
  reads = λ shallow. refl;
}

-- a report that is short
is_short : (r : UnitReport) → r.annotations ≡ None → (es : List ErrorDescription) → r.errors.items ≡ es → report_in true r ≡ short (report_in true r) (map (described_of true) es)
is_short r none es errors = ap₂ (λ a ds. record (report_in true r) { annotations = option_map view a; errors = map (described_of true) ds }) none errors

text_by : (r : UnitReport) → r.annotations ≡ None → (es : List ErrorDescription) → r.errors.items ≡ es → length es ≤ 1
    → compact_text (unit_object (report_in true r)) ≡ 123 ∷ (first_error es ++ places_text (report_in true r))
text_by r none [] errors one = ap (λ x. compact_text (unit_object x)) (is_short r none [] errors) ∙ text_without_error (report_in true r)
text_by r none (e ∷ []) errors one = ap (λ x. compact_text (unit_object x)) (is_short r none (e ∷ []) errors) ∙ text_with_error (report_in true r) (described_of true e)
text_by r none (e ∷ f ∷ es) errors one = let no : ⊥ = omega (arith, one) in absurd no

pub text_short : (r : UnitReport) → r.annotations ≡ None → length r.errors.items ≤ 1
    → compact_text (unit_object (report_in true r)) ≡ 123 ∷ (first_error r.errors.items ++ places_text (report_in true r))
text_short r none one = text_by r none r.errors.items refl one

prints_by : (r : UnitReport) → r.annotations ≡ None → (es : List ErrorDescription) → r.errors.items ≡ es → length es ≤ 1
    → Prints (unit_object (report_in true r)) (compact_text (unit_object (report_in true r)))
prints_by r none [] errors one = subst (λ x. Prints (unit_object x) (compact_text (unit_object x))) (sym (is_short r none [] errors)) (prints_without_error (report_in true r))
prints_by r none (e ∷ []) errors one = subst (λ x. Prints (unit_object x) (compact_text (unit_object x))) (sym (is_short r none (e ∷ []) errors)) (prints_with_error (report_in true r) (described_of true e))
prints_by r none (e ∷ f ∷ es) errors one = let no : ⊥ = omega (arith, one) in absurd no

pub prints_short : (r : UnitReport) → r.annotations ≡ None → length r.errors.items ≤ 1 → Prints (unit_object (report_in true r)) (compact_text (unit_object (report_in true r)))
prints_short r none one = prints_by r none r.errors.items refl one

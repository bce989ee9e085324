-- The code's values, in terms of the definitions.
use Rattle.std.specs.Prelude.{List, OnOk, Option, Result, String, map, option_map, true, ◌++◌, ◌≡◌}
use Rattle.std.proofs.Common.{Bor}
use Rattle.std.specs.declared.alloc.Global.{Global}
use Rattle.serde_json.specs.Data.{Data, Members}
use Rattle.serde_json.specs.View.{members_view, view}
use Rattle.serde_json.specs.declared.value.Value.{Value}
use Rattle.theory_definitions.specs.Instance.{Text}
use Rattle.theory_definitions.specs.Reports.{Described, Report}
use Rattle.schema_reports.specs.UnitViews.{described_of, report_in}
use Rattle.schema_reports.specs.declared.evaluation.ErrorDescription.{ErrorDescription}
use Rattle.schema_reports.specs.declared.evaluation.UnitReport.{UnitReport}

abbrev pub text_of : Option (Bor Text) → Option Text
text_of t = option_map (λ x. x.now) t

abbrev pub outer_of : Option (Bor UnitReport) → Option Report
outer_of outer = option_map (λ r. report_in true r.now) outer

abbrev pub errors_seen : List (Bor ErrorDescription) → List Described
errors_seen es = map (λ e. described_of true e.now) es

-- if the call succeeds, the members are made from those before
abbrev pub Makes : {A E : Type 0} → Result A E → List (String Global × Value) → List (String Global × Value) → (Members → Members) → Type 0
Makes result old new made = OnOk result (members_view new ≡ made (members_view old))

-- if the call succeeds, these values are appended to those before
abbrev pub Appends : {A E : Type 0} → Result A E → List Value → List Value → List Data → Type 0
Appends result old new more = OnOk result (map view new ≡ map view old ++ more)

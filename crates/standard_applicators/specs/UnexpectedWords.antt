-- How values are listed in a text. The digits of fractions are not claimed.
use Rattle.std.specs.Prelude.{IfOk, List, OnOk, Result, String, false, string_bytes, ◌++◌, ◌≡◌}
use Rattle.std.specs.declared.alloc.Global.{Global}
use Rattle.serde_json.specs.View.{items_view, view}
use Rattle.serde_json.specs.Written.{compact_text, has_float, items_have_float}
use Rattle.serde_json.specs.declared.value.Value.{Value}
use Rattle.theory_definitions.specs.Instance.{Text}
use Rattle.keyword_authoring.specs.TextWords.{Adds}
use Rattle.standard_applicators.specs.Unexpected.{listed}

-- if the result is `Ok`, this and the value's compact JSON were appended to the text
abbrev pub AddsShown : {A E : Type 0} → Text → Value → String Global → String Global → Result A E → Type 0
AddsShown before item old new result = OnOk result (has_float (view item) ≡ false → Adds (before ++ compact_text (view item)) old new)

-- if the result is `Ok`, it lists the values, with commas between them
abbrev pub ShowsListed : {E : Type 0} → List Value → Result (String Global) E → Type 0
ShowsListed items result = IfOk result (λ text. items_have_float (items_view items) ≡ false → string_bytes text ≡ listed (items_view items))

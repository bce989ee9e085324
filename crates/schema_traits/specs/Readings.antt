-- What the objects, lists and references of the code hold, in terms of the definitions.
use Rattle.std.proofs.Common.{Bor}
use Rattle.std.specs.BTreeMap.{BTreeMap}
use Rattle.std.specs.Prelude.{IfOk, List, Option, Result, String, map, option_map, string_bytes, ◌++◌, ◌≡◌}
use Rattle.std.specs.declared.alloc.Global.{Global}
use Rattle.std.specs.declared.vec.Vec.{Vec}
use Rattle.serde_json.specs.Data.{Data, Members}
use Rattle.serde_json.specs.View.{members_view, view}
use Rattle.serde_json.specs.declared.value.Value.{Value}
use Rattle.theory_definitions.specs.Instance.{Text}

-- the members of an object
abbrev pub fields : BTreeMap (String Global) Value → Members
fields m = members_view m.entries

-- a value that was read, if there is one
abbrev pub value_read : Option (Bor Value) → Option Data
value_read o = option_map (λ v. view v.now) o

-- a text that was read, if there is one
abbrev pub text_read : Option (Bor Text) → Option Text
text_read o = option_map (λ t. t.now) o

-- a result, if it is `Ok`, lists these
abbrev pub Lists : {A E : Type 0} → Result (Vec A Global) E → List A → Type 0
Lists result meant = IfOk result (λ v. v.items ≡ meant)

-- a result, if it is `Ok`, lists these texts
abbrev pub ListsTexts : {E : Type 0} → Result (Vec (String Global) Global) E → List Text → Type 0
ListsTexts result meant = IfOk result (λ v. map string_bytes v.items ≡ meant)

-- if the result is `Ok`, then these texts were added at the end of the list
abbrev pub AddsTexts : {A E : Type 0} → List (String Global) → List (String Global) → List Text → Result A E → Type 0
AddsTexts old new added result = IfOk result (λ _. map string_bytes new ≡ map string_bytes old ++ added)

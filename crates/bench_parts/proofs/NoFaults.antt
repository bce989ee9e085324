-- A value without values inside has no fault inside, and none itself unless it is a wrong
-- `minLength`.
use Rattle.std.proofs.Common.{◌≡◌, ◌∙◌, ◌&&◌, Bool, None, Some, ap, false, refl, true}
use Rattle.std.specs.Prelude.{bytes_eq, codes, if◌then◌else◌, is_some}
use Rattle.serde_json.specs.Data.{Data}
use Rattle.serde_json.specs.Find.{as_array}
use Rattle.theory_definitions.specs.Drafts.{Draft}
use Rattle.theory_definitions.specs.Instance.{Text}
use Rattle.bench_parts.specs.BenchMeta.{HasNoFaultItself, is_2020_12, is_list_of_items, is_no_length, mistyped, number_type, schema_types}

none_false : (a b : Bool) → (a && b && false) ≡ false
none_false true true = refl
none_false true false = refl
none_false false b = refl

no_list : (d : Draft) (k : Text) (v : Data) → is_some (as_array v) ≡ false → is_list_of_items d k v ≡ false
no_list d k v h = ap (λ (b : Bool). bytes_eq k (codes "items") && is_2020_12 d && b) h ∙ none_false (bytes_eq k (codes "items")) (is_2020_12 d)

pub none_itself : (k : Text) (v : Data) → is_no_length k v ≡ false → is_some (as_array v) ≡ false → HasNoFaultItself k v
none_itself k v length list texts d place =
    ap (λ (b : Bool). if b then Some (mistyped texts place v number_type) else (if is_list_of_items d k v then Some (mistyped texts place v schema_types) else None)) length
    ∙ ap (λ (b : Bool). if b then Some (mistyped texts place v schema_types) else None) (no_list d k v list)

-- The worked row of a fused keyword, by computation.
use Rattle.std.specs.Prelude.{Bool, false, refl, suc, true, zero, ◌&&◌, ◌≡◌}
use Rattle.std.specs.List.{list_all}
use Rattle.std.specs.Fmt.{digits}
use Rattle.serde_json.proofs.OnLiterals.{serde_json_on_literals}
use Rattle.theory_definitions.specs.Reports.{report_of}
use Rattle.theory_meaning.specs.RowsFused.{FusedHasOneError, FusedHasUnits, FusedKeepsUnits, a_list, a_text, fused_questions, has_least, is_list}
use Rattle.theory_meaning.proofs.Valid.{and_true}

pub fused_has_units : FusedHasUnits
unfolding serde_json_on_literals digits
fused_has_units zero c = refl
fused_has_units (suc n) c = refl

pub fused_has_one_error : FusedHasOneError
unfolding serde_json_on_literals digits
fused_has_one_error zero c = refl
fused_has_one_error (suc n) c = refl

turned : (a b d : Bool) → (a && (b && (d && true))) ≡ (b && (d && a))
turned true true true = refl
turned true true false = refl
turned true false d = refl
turned false true true = refl
turned false true false = refl
turned false false d = refl

pub fused_keeps_units : FusedKeepsUnits
fused_keeps_units a_text s matches u = and_true _
fused_keeps_units (a_list n) s matches u = turned (list_all (λ q. (report_of (u q)).valid) (fused_questions (a_list n) s)) (is_list s) (has_least n s)

-- Names of members past the last one.
use Rattle.std.proofs.Common.{◌≡◌, ◌≤◌, ◌-◌, ◌∷◌, [], List, None, ℕ, ap, arith, drop, length, refl, suc, zero}
use Rattle.std.proofs.Math.Seq.{drop-nil}
use Rattle.serde_json.specs.View.{members_view}
use Rattle.serde_json.proofs.Views.{Entry}
use Rattle.theory_definitions.specs.Instance.{Text}
use Rattle.keyword_authoring.specs.Members.{names_in}
use Rattle.test_laws.specs.EachName.{first_name}

-- if no member is left, there is no name
pub none_left : (k : ℕ) → first_name (drop k []) ≡ None
none_left k = ap first_name (drop-nil k)

-- there is no name past the last one either
pub names_past : (es : List Entry) (k : ℕ) → length es ≤ k → first_name (drop k (names_in (members_view es))) ≡ None
names_past [] k h = none_left k
names_past (e ∷ es) zero h = absurd (omega arith)
names_past (e ∷ es) (suc k) h = names_past es k (omega arith)

-- if other names come before the wanted one, the first name can be dropped
pub names_rest : (others : ℕ) (k : Text) (ks : List Text) → (others ≡ 0 → ⊥) → first_name (drop others (k ∷ ks)) ≡ first_name (drop (others - 1) ks)
names_rest zero k ks h = absurd (h refl)
names_rest (suc n) k ks h = let e : suc n - 1 ≡ n = omega arith in rw e refl

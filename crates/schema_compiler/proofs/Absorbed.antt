-- A map without some of its names, as members.
use Rattle.std.proofs.Common.{◌≡◌, Bool, true, false, List, [], ◌∷◌, String, Global, string_bytes, nat_cmp, bytes_eq, cond, refl, ap, ◌∙◌}
use Rattle.std.specs.Map.{remove_entry}
use Rattle.std.specs.BTreeMap.{is_at}
use Rattle.std.specs.Cmp.Lexicographic.{slice_cmp}
use Rattle.std.proofs.lemmas.Map.Text.{is_eq-slice_cmp}
use Rattle.serde_json.specs.Data.{member}
use Rattle.serde_json.specs.View.{view, members_view}
use Rattle.serde_json.proofs.Views.{Entry}
use Rattle.theory_definitions.specs.Instance.{Text}
use Rattle.theory_definitions.specs.Units.{without_name}

pub without_entry : (name : Text) (es : List Entry) → members_view (remove_entry (is_at (λ (k : String Global). slice_cmp nat_cmp name (string_bytes k))) es) ≡ without_name name (members_view es)
without_entry name [] = refl
without_entry name (e ∷ es) =
    ap (λ b. members_view (cond b es (e ∷ remove_entry (is_at (λ (k : String Global). slice_cmp nat_cmp name (string_bytes k))) es))) (is_eq-slice_cmp name (string_bytes e.0))
    ∙ go (bytes_eq name (string_bytes e.0)) (without_entry name es)
  where
    go : (b : Bool) → members_view (remove_entry (is_at (λ (k : String Global). slice_cmp nat_cmp name (string_bytes k))) es) ≡ without_name name (members_view es)
        → members_view (cond b es (e ∷ remove_entry (is_at (λ (k : String Global). slice_cmp nat_cmp name (string_bytes k))) es)) ≡ cond b (members_view es) (member (string_bytes e.0) (view e.1) (without_name name (members_view es)))
    go true rest = refl
    go false rest = ap (member (string_bytes e.0) (view e.1)) rest

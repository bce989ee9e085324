-- The number of members of an object, and of items of a list.
use Rattle.std.proofs.Common.{suc, ◌≡◌, ◌∙◌, List, [], ◌∷◌, length, ap, refl, add-one}
use Rattle.serde_json.specs.View.{items_view, members_view}
use Rattle.serde_json.specs.declared.value.Value.{Value}
use Rattle.keyword_authoring.specs.Members.{names_in}
use Rattle.keyword_authoring.specs.Items.{items_count}
use Rattle.serde_json.proofs.Views.{Entry}

pub names_in_length : (es : List Entry) → length (names_in (members_view es)) ≡ length es
names_in_length [] = refl
names_in_length (e ∷ es) = ap (λ n. suc n) (names_in_length es)

pub items_count_length : (vs : List Value) → items_count (items_view vs) ≡ length vs
items_count_length [] = refl
items_count_length (v ∷ vs) = add-one (items_count (items_view vs)) ∙ ap (λ n. suc n) (items_count_length vs)

-- The number of members of an object.
use Rattle.std.proofs.Common.{suc, ◌≡◌, ◌∙◌, List, [], ◌∷◌, length, ap, refl, add-one}
use Rattle.serde_json.specs.View.{members_view}
use Rattle.serde_json.proofs.Views.{Entry}
use Rattle.standard_basics.specs.Counts.{member_count}

pub member_count_length : (es : List Entry) → member_count (members_view es) ≡ length es
member_count_length [] = refl
member_count_length (e ∷ es) = add-one (member_count (members_view es)) ∙ ap (λ n. suc n) (member_count_length es)

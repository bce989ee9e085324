-- The member with a name, by the lookups of `serde_json`, and values that are no object.
use Rattle.std.proofs.Common.{◌≡◌, ◌∙◌, cond, Option, Some, ap, sym, refl, Ordering, Less, Equal, Greater}
use Rattle.std.specs.Ordering.{nat_cmp, is_eq, match_ordering}
use Rattle.std.specs.Cmp.Lexicographic.{slice_cmp}
use Rattle.std.proofs.lemmas.Map.Text.{is_eq-slice_cmp}
use Rattle.serde_json.specs.Data.{Data, Members, no_members, member}
use Rattle.serde_json.specs.Find.{get_member}
use Rattle.theory_definitions.specs.Instance.{Text, member_of}

by_order : (o : Ordering) (d : Data) (a b : Option Data) → a ≡ b → cond (is_eq o) (Some d) a ≡ match_ordering o b (Some d) b
by_order Less d a b e = e
by_order Equal d a b e = refl
by_order Greater d a b e = e

-- the first member with the name is found
pub member_of-get_member : (k : Text) (ms : Members) → member_of k ms ≡ get_member k ms
member_of-get_member k no_members = refl
member_of-get_member k (member l d ms) =
    ap (λ b. cond b (Some d) (member_of k ms)) (sym (is_eq-slice_cmp k l)) ∙ by_order (slice_cmp nat_cmp k l) d _ _ (member_of-get_member k ms)

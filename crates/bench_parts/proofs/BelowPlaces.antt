-- The value one step below a place: an item of a list, and a member of an object whose names
-- ascend.
use Rattle.std.proofs.Common.{◌≡◌, ◌<◌, ◌++◌, ◌∷◌, ◌∙◌, [], Bool, false, Greater, Less, List, Option, Some, ap, arith, cond, get_or, length, nat_cmp, option_and_then, refl, string_bytes, string_cmp, suc, sym, zero, ℕ}
use Rattle.std.specs.Prelude.{bytes_eq}
use Rattle.std.specs.List.{AllByRecursion}
use Rattle.std.specs.List.Sorted.{IsStrictlySortedBy}
use Rattle.std.specs.Map.{keys_of}
use Rattle.std.specs.Cmp.Lexicographic.{slice_cmp}
use Rattle.std.specs.Ordering.{is_eq, ordering_reverse}
use Rattle.std.proofs.lemmas.Cmp.{nat_list_cmp_total}
use Rattle.std.proofs.lemmas.Map.Text.{is_eq-slice_cmp}
use Rattle.std.proofs.lemmas.Slice.Eq.{bytes_eq-Decides}
use Rattle.serde_json.specs.Data.{Data, Items, Members, array, object}
use Rattle.serde_json.specs.View.{items_view, members_view, view}
use Rattle.serde_json.specs.declared.value.Value.{Value}
use Rattle.serde_json.proofs.Views.{Entry}
use Rattle.theory_definitions.specs.Instance.{Place, Text, a_value, item_of, member_of, subject_at, subject_from, to_item, to_member}
use Rattle.schema_traits.proofs.Replies.{stands_below}

-- the item at an index
pub item_there : (k : ℕ) (es : List Value) (e : Value) → k < length es → get_or es k e ≡ e → item_of k (items_view es) ≡ Some (view e)
item_there k [] e l g = absurd (omega arith)
item_there zero (x ∷ es) e l g = ap (λ (y : Value). Some (view y)) g
item_there (suc k) (x ∷ es) e l g = item_there k es e (omega arith) g

-- the member with a name, if the names before it are less
above_all : (first : Entry) (es : List Entry) (e : Entry) (more : List Entry) → AllByRecursion (λ y. string_cmp first.0 y ≡ Less) (keys_of (es ++ e ∷ more)) → string_cmp first.0 e.0 ≡ Less
above_all first [] e more h = h.0
above_all first (x ∷ es) e more h = above_all first es e more h.1

pub member_there : (done : List Entry) (e : Entry) (more : List Entry) → IsStrictlySortedBy string_cmp (keys_of (done ++ e ∷ more))
    → member_of (string_bytes e.0) (members_view (done ++ e ∷ more)) ≡ Some (view e.1)
unfolding IsStrictlySortedBy
member_there [] e more h = ap (λ (b : Bool). cond b (Some (view e.1)) (member_of (string_bytes e.0) (members_view more))) ((bytes_eq-Decides (string_bytes e.0) (string_bytes e.0)).1 refl)
member_there (first ∷ done) e more h =
    let above : slice_cmp nat_cmp (string_bytes e.0) (string_bytes first.0) ≡ Greater =
    nat_list_cmp_total.antisymm (string_bytes e.0) (string_bytes first.0) ∙ ap ordering_reverse (above_all first done e more h.0) in
    let differs : bytes_eq (string_bytes e.0) (string_bytes first.0) ≡ false = sym (is_eq-slice_cmp (string_bytes e.0) (string_bytes first.0)) ∙ ap is_eq above in
    ap (λ (b : Bool). cond b (Some (view first.1)) (member_of (string_bytes e.0) (members_view (done ++ e ∷ more)))) differs ∙ member_there done e more h.1

-- one step below a place
pub below_list : (root : Data) (p q : Place) (k : ℕ) (ds : Items) (d : Data) → q ≡ p ++ to_item k ∷ [] → subject_at root p ≡ Some (a_value (array ds)) → item_of k ds ≡ Some d
    → subject_at root q ≡ Some (a_value d)
below_list root p q k ds d is at there = stands_below root p (to_item k ∷ []) q (a_value (array ds)) (a_value d) is at
    (ap (λ (o : Option Data). option_and_then (subject_from []) (option_and_then (λ x. Some (a_value x)) o)) there)

pub below_object : (root : Data) (p q : Place) (k : Text) (ms : Members) (d : Data) → q ≡ p ++ to_member k ∷ [] → subject_at root p ≡ Some (a_value (object ms)) → member_of k ms ≡ Some d
    → subject_at root q ≡ Some (a_value d)
below_object root p q k ms d is at there = stands_below root p (to_member k ∷ []) q (a_value (object ms)) (a_value d) is at
    (ap (λ (o : Option Data). option_and_then (subject_from []) (option_and_then (λ x. Some (a_value x)) o)) there)

-- The copy of a document without its embedded resources, by the code's lists of items and members.
use Rattle.std.proofs.Common.{◌≡◌, ◌∙◌, ◌<◌, ◌+◌, ◌++◌, ◌∷◌, [], ℕ, suc, Bool, true, false, Greater, Less, List, ap, arith, drop, get_or, length, map, nat_cmp, refl, string_bytes, string_cmp, sym}
use Rattle.std.specs.Prelude.{if◌then◌else◌}
use Rattle.std.specs.List.{AllByRecursion}
use Rattle.std.specs.List.Sorted.{IsStrictlySortedBy}
use Rattle.std.specs.Map.{keys_of}
use Rattle.std.specs.Cmp.Lexicographic.{slice_cmp}
use Rattle.std.specs.Ordering.{ordering_reverse}
use Rattle.std.proofs.lemmas.Cmp.{nat_list_cmp_total}
use Rattle.std.proofs.lemmas.List.{drop_more}
use Rattle.serde_json.specs.Data.{Data, Items, Members, array, boolean, item, member, no_items, no_members, null, number, object, put, string}
use Rattle.serde_json.specs.View.{items_view, members_view, view}
use Rattle.serde_json.specs.declared.value.Value.{Value}
use Rattle.serde_json.proofs.Views.{Entry}
use Rattle.theory_definitions.specs.Instance.{Step, to_item, to_member}
use Rattle.theory_definitions.specs.Drafts.{SchemaPlace}
use Rattle.theory_definitions.specs.Parts.{Parts}
use Rattle.theory_meaning.specs.Documents.{Cut, masked, masked_items, masked_members, is_cut, passes_unseen}

-- items as a list
abbrev pub items_of : List Data → Items
items_of [] = no_items
items_of (d ∷ ds) = item d (items_of ds)

pub items_listed : (vs : List Value) → items_view vs ≡ items_of (map view vs)
items_listed [] = refl
items_listed (v ∷ vs) = ap (item (view v)) (items_listed vs)

above_all : (first : Entry) (es : List Entry) (e : Entry) (more : List Entry) → AllByRecursion (λ y. string_cmp first.0 y ≡ Less) (keys_of (es ++ e ∷ more)) → string_cmp first.0 e.0 ≡ Less
above_all first [] e more h = h.0
above_all first (x ∷ es) e more h = above_all first es e more h.1

module _ {S K R : Type 0} (w : Parts S K R) where
  -- ---- booleans and `{}`

  pub unseen_object : (es : List Entry) (b : Bool) → (b ≡ true → length es ≡ 0) → (length es ≡ 0 → b ≡ true) → b ≡ passes_unseen w (object (members_view es))
  unseen_object [] b some none = none refl
  unseen_object (e ∷ es) true some none = absurd (let no : suc (length es) ≡ 0 = some refl in omega arith)
  unseen_object (e ∷ es) false some none = refl

  -- ---- one step below a place

  module _ (qs : List Cut) (p : SchemaPlace) where
    abbrev pub below : Step → SchemaPlace
    below s = record p { path = p.path ++ s ∷ [] }

    abbrev pub child : Step → Data → Data
    child s d = if is_cut w qs (below s) then object no_members else masked w qs (below s) d

    abbrev pub children_from : ℕ → List Value → List Data
    children_from n [] = []
    children_from n (v ∷ vs) = child (to_item n) (view v) ∷ children_from (n + 1) vs

    pub children_listed : (n : ℕ) (vs : List Value) → masked_items w qs p n (items_view vs) ≡ items_of (children_from n vs)
    children_listed n [] = refl
    children_listed n (v ∷ vs) = ap (item (child (to_item n) (view v))) (children_listed (n + 1) vs)

    pub next_child : (vs : List Value) (k : ℕ) (v : Value) → k < length vs → v ≡ get_or vs k v → children_from k (drop k vs) ≡ child (to_item k) (view v) ∷ children_from (k + 1) (drop (k + 1) vs)
    next_child vs k v l at = ap (children_from k) (drop_more vs k v l) ∙ ap (λ (x : Value). child (to_item k) (view x) ∷ children_from (k + 1) (drop (k + 1) vs)) (sym at)

    -- a member whose name is above those before it goes last
    pub put_child : (done : List Entry) (e : Entry) (more : List Entry) → IsStrictlySortedBy string_cmp (keys_of (done ++ e ∷ more))
        → put (string_bytes e.0) (child (to_member (string_bytes e.0)) (view e.1)) (masked_members w qs p (members_view done)) ≡ masked_members w qs p (members_view (done ++ e ∷ []))
    unfolding IsStrictlySortedBy
    put_child [] e more h = refl
    put_child (first ∷ done) e more h =
        let above : slice_cmp nat_cmp (string_bytes e.0) (string_bytes first.0) ≡ Greater =
        nat_list_cmp_total.antisymm (string_bytes e.0) (string_bytes first.0) ∙ ap ordering_reverse (above_all first done e more h.0) in
        rw above (ap (member (string_bytes first.0) (child (to_member (string_bytes first.0)) (view first.1))) (put_child done e more h.1))

  -- ---- if nothing is cut out

  mutual
    pub blanked_nowhere : (p : SchemaPlace) (d : Data) → masked w [] p d ≡ d
    blanked_nowhere p null = refl
    blanked_nowhere p (boolean b) = refl
    blanked_nowhere p (number n) = refl
    blanked_nowhere p (string s) = refl
    blanked_nowhere p (array ds) = ap array (items_nowhere p 0 ds)
    blanked_nowhere p (object ms) = ap object (members_nowhere p ms)

    items_nowhere : (p : SchemaPlace) (n : ℕ) (ds : Items) → masked_items w [] p n ds ≡ ds
    items_nowhere p n no_items = refl
    items_nowhere p n (item d ds) = ap (λ (x : Data). item x (masked_items w [] p (n + 1) ds)) (blanked_nowhere (record p { path = p.path ++ to_item n ∷ [] }) d) ∙ ap (item d) (items_nowhere p (n + 1) ds)

    members_nowhere : (p : SchemaPlace) (ms : Members) → masked_members w [] p ms ≡ ms
    members_nowhere p no_members = refl
    members_nowhere p (member k d ms) = ap (λ (x : Data). member k x (masked_members w [] p ms)) (blanked_nowhere (record p { path = p.path ++ to_member k ∷ [] }) d) ∙ ap (member k d) (members_nowhere p ms)

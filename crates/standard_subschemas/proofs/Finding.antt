-- The values that are found in a schema are those at the paths of its subschemas.
use Rattle.std.proofs.Common.{◌≡◌, ◌∙◌, ◌<◌, ◌≤◌, ◌+◌, ◌++◌, ◌∷◌, [], ℕ, zero, suc, Bool, true, false, Bor, Greater, Less, List, Option}
use Rattle.std.proofs.Common.{Some, ap, append-nil, append_assoc, arith, bytes_eq, cond, drop, get_or, length, map, nat_cmp}
use Rattle.std.proofs.Common.{option_and_then, option_map, refl, string_bytes, string_cmp, subst, sym}
use Rattle.std.specs.List.{AllByRecursion}
use Rattle.std.specs.List.Sorted.{IsStrictlySortedBy}
use Rattle.std.specs.Map.{keys_of}
use Rattle.std.specs.Cmp.Lexicographic.{slice_cmp}
use Rattle.std.specs.Ordering.{is_eq, ordering_reverse}
use Rattle.std.proofs.lemmas.List.{drop_all, drop_more}
use Rattle.std.proofs.lemmas.Cmp.{nat_list_cmp_total}
use Rattle.std.proofs.lemmas.Map.Text.{is_eq-slice_cmp}
use Rattle.std.proofs.lemmas.Slice.Eq.{bytes_eq-Decides}
use Rattle.serde_json.specs.Data.{Data, Items, Members, array, boolean, null, number, object, string}
use Rattle.serde_json.specs.Find.{as_array, as_object, get}
use Rattle.serde_json.specs.View.{items_view, members_view, view}
use Rattle.serde_json.specs.declared.value.Value.{Value}
use Rattle.serde_json.proofs.Views.{Entry}
use Rattle.theory_definitions.specs.Instance.{Place, Text, a_value, item_of, member_of, subject_at, subject_from, to_item, to_member}
use Rattle.schema_reports.proofs.Found.{after_member}
use Rattle.standard_subschemas.specs.SubschemaRules.{below_list, below_object, below_value, data_of, is_schema, items_below, members_below}
use Rattle.standard_subschemas.specs.SubschemaRules.{place_if}
use Rattle.standard_subschemas.specs.FoundSchemas.{Found, found_at, found_if, schema_if}
use Rattle.standard_subschemas.specs.FoundViews.{found_of, path_of}
use Rattle.standard_subschemas.specs.declared.below.FoundSchema.{FoundSchema}

-- ---- an item of a list, and a member of an object whose names ascend

pub item_there : (k : ℕ) (es : List Value) (e : Value) → k < length es → e ≡ get_or es k e → item_of k (items_view es) ≡ Some (view e)
item_there k [] e l g = absurd (omega arith)
item_there zero (x ∷ es) e l g = ap (λ (y : Value). Some (view y)) (sym g)
item_there (suc k) (x ∷ es) e l g = item_there k es e (omega arith) g

above_all : (first : Entry) (es : List Entry) (e : Entry) (more : List Entry) → AllByRecursion (λ y. string_cmp first.0 y ≡ Less)
    (keys_of (es ++ e ∷ more)) → string_cmp first.0 e.0 ≡ Less
above_all first [] e more h = h.0
above_all first (x ∷ es) e more h = above_all first es e more h.1

pub member_there : (done : List Entry) (e : Entry) (more : List Entry) → IsStrictlySortedBy string_cmp (keys_of (done ++ e ∷ more))
    → member_of (string_bytes e.0) (members_view (done ++ e ∷ more)) ≡ Some (view e.1)
unfolding IsStrictlySortedBy
member_there [] e more h = ap (λ (b : Bool). cond b (Some (view e.1)) (member_of (string_bytes e.0) (members_view more)))
    ((bytes_eq-Decides (string_bytes e.0) (string_bytes e.0)).1 refl)
member_there (first ∷ done) e more h =
    let above : slice_cmp nat_cmp (string_bytes e.0) (string_bytes first.0) ≡ Greater =
    nat_list_cmp_total.antisymm (string_bytes e.0) (string_bytes first.0) ∙ ap ordering_reverse (above_all first done e more h.0) in
    let differs : bytes_eq (string_bytes e.0) (string_bytes first.0)
    ≡ false = sym (is_eq-slice_cmp (string_bytes e.0) (string_bytes first.0)) ∙ ap is_eq above in
    ap (λ (b : Bool). cond b (Some (view first.1)) (member_of (string_bytes e.0) (members_view (done ++ e ∷ more)))) differs
    ∙ member_there done e more h.1

-- ---- the value under a keyword

module _ (schema : Data) (k : Text) where
  after_it : (p : Place) (v : Data) → get k schema ≡ Some v → subject_at schema (to_member k ∷ p) ≡ subject_from p (a_value v)
  after_it p v e = ap (option_and_then (subject_from p)) (after_member k schema ∙ ap (option_map a_value) e)

  stands : (p : Place) (d : Data) → subject_at schema p ≡ Some (a_value d) → found_at schema p ≡ record { path = p; schema = Some d }
  stands p d e = ap (λ o. record { path = p; schema = data_of o }) e

  pub member_found : (l : Text) (ms : Members) (d : Data) → get k schema ≡ Some (object ms) → member_of l ms ≡ Some d
      → found_at schema (to_member k ∷ to_member l ∷ []) ≡ record { path = to_member k ∷ to_member l ∷ []; schema = Some d }
  member_found l ms d at there = stands (to_member k ∷ to_member l ∷ []) d
      (after_it (to_member l ∷ []) (object ms) at
      ∙ ap (λ (o : Option Data). option_and_then (subject_from []) (option_and_then (λ v. Some (a_value v)) o)) there)

  pub item_found : (i : ℕ) (ds : Items) (d : Data) → get k schema ≡ Some (array ds) → item_of i ds ≡ Some d
      → found_at schema (to_member k ∷ to_item i ∷ []) ≡ record { path = to_member k ∷ to_item i ∷ []; schema = Some d }
  item_found i ds d at there = stands (to_member k ∷ to_item i ∷ []) d
      (after_it (to_item i ∷ []) (array ds) at
      ∙ ap (λ (o : Option Data). option_and_then (subject_from []) (option_and_then (λ v. Some (a_value v)) o)) there)

  value_of_it : (b : Bool) (d : Data) → is_schema d ≡ b → get k schema ≡ Some d
      → found_if b (record { path = to_member k ∷ []; schema = Some d }) ≡ map (found_at schema) (place_if b (to_member k ∷ []) [])
  value_of_it true d is at = ap (λ x. x ∷ []) (sym (stands (to_member k ∷ []) d (after_it [] d at)))
  value_of_it false d is at = refl

  pub value_found : (old : List Found) (d : Data) → get k schema ≡ Some d → old
      ++ schema_if (record { path = to_member k ∷ []; schema = Some d }) ≡ old ++ map (found_at schema) (below_value k (get k schema))
  value_found old d at = ap (λ x. old ++ x) (value_of_it (is_schema d) d refl at)
      ∙ ap (λ o. old ++ map (found_at schema) (below_value k o)) (sym at)

-- a turn of a loop
turned_if : (schema : Data) (old ps : List Found) (x : Found) (b : Bool) (p : Place) (qs : List Place) → found_at schema p ≡ x → old
    ++ map (found_at schema) (place_if b p qs) ≡ (old ++ found_if b x) ++ map (found_at schema) qs
turned_if schema old ps x true p qs is = ap (λ y. old ++ y ∷ map (found_at schema) qs) is
    ∙ sym (append_assoc old (x ∷ []) (map (found_at schema) qs))
turned_if schema old ps x false p qs is = ap (λ y. y ++ map (found_at schema) qs) (sym (append-nil old))

pub turned : (schema : Data) (whole old new : List Found) (d : Data) (p : Place) (qs : List Place) → whole ≡ old
    ++ map (found_at schema) (place_if (is_schema d) p qs)
    → found_at schema p ≡ record { path = p; schema = Some d } → new ≡ old ++ schema_if (record { path = p; schema = Some d }) → whole
    ≡ new ++ map (found_at schema) qs
turned schema whole old new d p qs so_far is added =
    so_far ∙ turned_if schema old [] (record { path = p; schema = Some d }) (is_schema d) p qs is
    ∙ ap (λ y. y ++ map (found_at schema) qs) (sym added)

-- ---- over the members of an object, and over the items of a list

abbrev pub OverMembers : Data → Text → List Found → List Found → List Entry → Type 0
OverMembers schema k before now left = (before ++ map (found_at schema) (below_object k (get k schema)) ≡ now
    ++ map (found_at schema) (members_below k (members_view left)))
    × ((done : List Entry) × (get k schema ≡ Some (object (members_view (done ++ left))))
    × IsStrictlySortedBy string_cmp (keys_of (done ++ left)))

pub members_start : (schema : Data) (k : Text) (old : List Found) (es left : List Entry) → get k schema ≡ Some (object (members_view es))
    → IsStrictlySortedBy string_cmp (keys_of es) → left ≡ es
    → OverMembers schema k old old left
members_start schema k old es left there sorted is =
    subst (λ (xs : List Entry). OverMembers schema k old old xs) (sym is) (
      ap (λ o. old ++ map (found_at schema) (below_object k o)) there,
      ([], there, sorted),
    )

pub members_go : (schema : Data) (k : Text) (before old new : List Found) (left next : List Entry) (e : Entry) → left ≡ e ∷ next
    → OverMembers schema k before old left
    → new ≡ old ++ schema_if (record { path = to_member k ∷ to_member (string_bytes e.0) ∷ []; schema = Some (view e.1) })
    → OverMembers schema k before new next
members_go schema k before old new left next e is so_far added =
    let done = so_far.1.0 in
    let all : done ++ left ≡ done ++ e ∷ next = ap (λ (xs : List Entry). done ++ xs) is in
    let there : get k schema ≡ Some (object (members_view (done ++ e ∷ next))) = so_far.1.1
    ∙ ap (λ (xs : List Entry). Some (object (members_view xs))) all in
    let sorted : IsStrictlySortedBy string_cmp (keys_of (done ++ e ∷ next)) =
    subst (λ (xs : List Entry). IsStrictlySortedBy string_cmp (keys_of xs)) all so_far.1.2 in
    let found = member_found schema k (string_bytes e.0) (members_view (done ++ e ∷ next)) (view e.1) there
    (member_there done e next sorted) in
    let again : done ++ e ∷ next ≡ (done ++ e ∷ []) ++ next = sym (append_assoc done (e ∷ []) next) in (
      turned schema _ old new (view e.1) (to_member k ∷ to_member (string_bytes e.0) ∷ []) (members_below k (members_view next))
          (so_far.0 ∙ ap (λ (xs : List Entry). old ++ map (found_at schema) (members_below k (members_view xs))) is) found added,
      (
        done ++ e ∷ [],
        there ∙ ap (λ (xs : List Entry). Some (object (members_view xs))) again,
        subst (λ (xs : List Entry). IsStrictlySortedBy string_cmp (keys_of xs)) again sorted,
      ),
    )

pub members_end : (schema : Data) (k : Text) (before now : List Found) (left : List Entry) → left ≡ []
    → OverMembers schema k before now left
    → now ≡ before ++ map (found_at schema) (below_object k (get k schema))
members_end schema k before now left is so_far =
    sym (append-nil now) ∙ sym (so_far.0 ∙ ap (λ (xs : List Entry). now ++ map (found_at schema) (members_below k (members_view xs))) is)

abbrev pub OverItems : Data → Text → List Found → List Found → List Value → ℕ → Type 0
OverItems schema k before now items i = (before ++ map (found_at schema) (below_list k (get k schema)) ≡ now
    ++ map (found_at schema) (items_below k i (items_view (drop i items))))
    × (get k schema ≡ Some (array (items_view items)))

pub items_start : (schema : Data) (k : Text) (old : List Found) (items : List Value) → get k schema ≡ Some (array (items_view items))
    → OverItems schema k old old items 0
items_start schema k old items there = (ap (λ o. old ++ map (found_at schema) (below_list k o)) there, there)

pub items_go : (schema : Data) (k : Text) (before old new : List Found) (items : List Value) (i : ℕ) (e : Value) → i < length items → e
    ≡ get_or items i e → OverItems schema k before old items i
    → new ≡ old ++ schema_if (record { path = to_member k ∷ to_item i ∷ []; schema = Some (view e) })
    → OverItems schema k before new items (i + 1)
items_go schema k before old new items i e l at so_far added =
    let left : drop i items ≡ e ∷ drop (i + 1) items = drop_more items i e l ∙ ap (λ (x : Value). x ∷ drop (i + 1) items) (sym at) in
    let found = item_found schema k i (items_view items) (view e) so_far.1 (item_there i items e l at) in (
      turned schema _ old new (view e) (to_member k ∷ to_item i ∷ []) (items_below k (i + 1) (items_view (drop (i + 1) items)))
          (so_far.0 ∙ ap (λ (xs : List Value). old ++ map (found_at schema) (items_below k i (items_view xs))) left) found added,
      so_far.1,
    )

pub items_end : (schema : Data) (k : Text) (before now : List Found) (items : List Value) (i : ℕ) → length items ≤ i
    → OverItems schema k before now items i
    → now ≡ before ++ map (found_at schema) (below_list k (get k schema))
items_end schema k before now items i l so_far =
    sym (append-nil now) ∙ sym (so_far.0 ∙ ap (λ (xs : List Value). now ++ map (found_at schema) (items_below k i (items_view xs)))
    (drop_all i items l))

-- ---- the values that the code read

pub object_is : (d : Data) (ms : Members) → as_object d ≡ Some ms → d ≡ object ms
object_is (object es) ms h = let e : es ≡ ms = cc in ap object e
object_is null ms h = cc
object_is (boolean b) ms h = cc
object_is (number n) ms h = cc
object_is (string s) ms h = cc
object_is (array ds) ms h = cc

pub array_is : (d : Data) (ds : Items) → as_array d ≡ Some ds → d ≡ array ds
array_is (array es) ds h = let e : es ≡ ds = cc in ap array e
array_is null ds h = cc
array_is (boolean b) ds h = cc
array_is (number n) ds h = cc
array_is (string s) ds h = cc
array_is (object ms) ds h = cc

pub read_is : (o : Option (Bor Value)) (v : Bor Value) (r : Option Data) → option_map (λ (x : Bor Value). view x.now) o ≡ r → o ≡ Some v
    → r ≡ Some (view v.now)
read_is o v r e is = sym e ∙ ap (option_map (λ (x : Bor Value). view x.now)) is

-- the paths alone
of_items : (items : List FoundSchema) → map (λ (f : Found). f.path) (map found_of items) ≡ map path_of items
of_items [] = refl
of_items (x ∷ items) = ap (λ (ps : List Place). path_of x ∷ ps) (of_items items)

of_paths : (schema : Data) (ps : List Place) → map (λ (f : Found). f.path) (map (found_at schema) ps) ≡ ps
of_paths schema [] = refl
of_paths schema (p ∷ ps) = ap (λ (qs : List Place). p ∷ qs) (of_paths schema ps)

pub paths_found : (schema : Data) (items : List FoundSchema) (ps : List Place) → map found_of items ≡ map (found_at schema) ps
    → map path_of items ≡ ps
paths_found schema items ps e = sym (of_items items) ∙ ap (map (λ (f : Found). f.path)) e ∙ of_paths schema ps

-- One or two steps, and the subschemas that they lead to.
use Rattle.std.proofs.Common.{◌≡◌, ◌∙◌, ℕ, zero, suc, ◌+◌, ◌<◌, ◌≤◌, ◌==◌, ◌&&◌, Bool, true, false, List, [], ◌∷◌, ◌++◌, Option, Some}
use Rattle.std.proofs.Common.{None, Ordering, Less, Equal, Greater, String, Global, drop, get_or, length, take, map, refl, sym, ap, subst}
use Rattle.std.proofs.Common.{string_bytes, string_cmp, nat_cmp, is_eq, bytes_eq, arith}
use Rattle.std.specs.Prelude.{◌||◌, flat_map}
use Rattle.std.specs.List.{AllByRecursion, list_any}
use Rattle.std.specs.List.Sorted.{IsStrictlySortedBy}
use Rattle.std.specs.Map.{keys_of}
use Rattle.std.specs.Ordering.{match_ordering}
use Rattle.std.specs.Cmp.Lexicographic.{slice_cmp}
use Rattle.std.proofs.lemmas.Bool.{eq-eqb, ne_eqb}
use Rattle.std.proofs.lemmas.List.{drop_all, drop_more, length-map}
use Rattle.std.proofs.lemmas.List.Folds.{list_any-append}
use Rattle.std.proofs.lemmas.Map.Text.{is_eq-slice_cmp}
use Rattle.serde_json.specs.Data.{Data, Items, Members, array, boolean, item, member, no_items, no_members, null, number, object, string}
use Rattle.serde_json.specs.Find.{at, get, get_item, get_member}
use Rattle.serde_json.specs.View.{members_view, view}
use Rattle.serde_json.proofs.Views.{Entry}
use Rattle.theory_definitions.specs.Drafts.{Draft}
use Rattle.theory_definitions.specs.Instance.{Place, Step, Text, same_place, same_step, to_item, to_member}
use Rattle.schema_reports.proofs.Found.{same-from-equal}
use Rattle.schema_reports.proofs.Places.{differ_in_length}
use Rattle.standard_subschemas.specs.declared.rules.Rule.{Rule}
use Rattle.standard_subschemas.specs.SubschemaRules.{below_list, below_object, below_value, is_schema, items_below, members_below}
use Rattle.standard_subschemas.specs.SubschemaRules.{names_of_lists, names_of_objects, names_of_values, place_if}
use Rattle.standard_resolver.specs.DocumentLookups.{is_subschema}
use Rattle.standard_resolver.specs.OnWay.{item_among, leads_to_item, leads_to_member, member_among, pairs_below, schema_found, singles_below}

-- ---- tests

and_false : (a : Bool) → (a && false) ≡ false
and_false true = refl
and_false false = refl

or_false : (a : Bool) → (a || false) ≡ a
or_false true = refl
or_false false = refl

combined : (a b x y : Bool) → x ≡ (a && y) → ((a && (b && true)) || x) ≡ (a && (b || y))
combined true true x y e = refl
combined true false x y e = e
combined false b x y e = e

-- a test of the lists that belong to the elements of a list, one element after the other
module _ {X A B : Type 0} (key : X → A) (f : A → List B) (p : B → Bool) (xs : List X) (i : ℕ) (x : X) where
  abbrev left : ℕ → Bool
  left n = list_any p (flat_map f (map key (drop n xs)))

  any_next : i < length xs → x ≡ get_or xs i x → left i ≡ (list_any p (f (key x)) || left (i + 1))
  any_next l at = ap (λ (ys : List X). list_any p (flat_map f (map key ys))) (drop_more xs i x l)
      ∙ ap (λ (y : X). list_any p (f (key y) ++ flat_map f (map key (drop (i + 1) xs)))) (sym at)
      ∙ list_any-append p (f (key x)) (flat_map f (map key (drop (i + 1) xs)))

  pub any_found : (whole : Bool) → i < length xs → x ≡ get_or xs i x → whole ≡ left i → list_any p (f (key x)) ≡ true → true ≡ whole
  any_found whole l at so_far here = sym (so_far ∙ any_next l at ∙ ap (λ b. b || left (i + 1)) here)

  pub any_past : (whole : Bool) → i < length xs → x ≡ get_or xs i x → whole ≡ left i → list_any p (f (key x)) ≡ false → whole
      ≡ left (i + 1)
  any_past whole l at so_far here = so_far ∙ any_next l at ∙ ap (λ b. b || left (i + 1)) here

pub any_done : {X A B : Type 0} (key : X → A) (f : A → List B) (p : B → Bool) (xs : List X) (i : ℕ) (whole : Bool) → length xs ≤ i → whole
    ≡ list_any p (flat_map f (map key (drop i xs))) → false ≡ whole
any_done key f p xs i whole l so_far = sym (so_far ∙ ap (λ ys. list_any p (flat_map f (map key ys))) (drop_all i xs l))

-- ---- members, items and values

module _ (k : Text) (s t : Step) where
  any_member : (ms : Members) → list_any (same_place (s ∷ t ∷ [])) (members_below k ms) ≡ (same_step s (to_member k) && member_among t ms)
  any_member no_members = sym (and_false (same_step s (to_member k)))
  any_member (member l d ms) = go (is_schema d) (any_member ms)
    where
      go : (c : Bool) → list_any (same_place (s ∷ t ∷ [])) (members_below k ms) ≡ (same_step s (to_member k) && member_among t ms)
          → list_any (same_place (s ∷ t ∷ [])) (place_if c (to_member k ∷ to_member l ∷ []) (members_below k ms))
          ≡ (same_step s (to_member k) && ((c && same_step t (to_member l)) || member_among t ms))
      go true h = combined (same_step s (to_member k)) (same_step t (to_member l)) _ _ h
      go false h = h

  any_item : (i : ℕ) (ds : Items) → list_any (same_place (s ∷ t ∷ [])) (items_below k i ds)
      ≡ (same_step s (to_member k) && item_among t i ds)
  any_item i no_items = sym (and_false (same_step s (to_member k)))
  any_item i (item d ds) = go (is_schema d) (any_item (i + 1) ds)
    where
      go : (c : Bool) → list_any (same_place (s ∷ t ∷ [])) (items_below k (i + 1) ds)
          ≡ (same_step s (to_member k) && item_among t (i + 1) ds)
          → list_any (same_place (s ∷ t ∷ [])) (place_if c (to_member k ∷ to_item i ∷ []) (items_below k (i + 1) ds))
          ≡ (same_step s (to_member k) && ((c && same_step t (to_item i)) || item_among t (i + 1) ds))
      go true h = combined (same_step s (to_member k)) (same_step t (to_item i)) _ _ h
      go false h = h

-- a test of a value that may be missing
abbrev pub holds_of : (Data → Bool) → Option Data → Bool
holds_of f None = false
holds_of f (Some d) = f d

pub in_an_object : (k : Text) (s t : Step) (o : Option Data) → list_any (same_place (s ∷ t ∷ [])) (below_object k o)
    ≡ (same_step s (to_member k) && holds_of (leads_to_member t) o)
in_an_object k s t None = sym (and_false _)
in_an_object k s t (Some (object ms)) = any_member k s t ms
in_an_object k s t (Some null) = sym (and_false _)
in_an_object k s t (Some (boolean b)) = sym (and_false _)
in_an_object k s t (Some (number n)) = sym (and_false _)
in_an_object k s t (Some (string x)) = sym (and_false _)
in_an_object k s t (Some (array ds)) = sym (and_false _)

pub in_a_list : (k : Text) (s t : Step) (o : Option Data) → list_any (same_place (s ∷ t ∷ [])) (below_list k o)
    ≡ (same_step s (to_member k) && holds_of (leads_to_item t) o)
in_a_list k s t None = sym (and_false _)
in_a_list k s t (Some (array ds)) = any_item k s t 0 ds
in_a_list k s t (Some null) = sym (and_false _)
in_a_list k s t (Some (boolean b)) = sym (and_false _)
in_a_list k s t (Some (number n)) = sym (and_false _)
in_a_list k s t (Some (string x)) = sym (and_false _)
in_a_list k s t (Some (object ms)) = sym (and_false _)

-- ---- the member of a name, in an object whose names ascend

no_more : (name : Text) (es : List Entry) → AllByRecursion (λ y. slice_cmp nat_cmp name (string_bytes y) ≡ Less) (keys_of es)
    → member_among (to_member name) (members_view es) ≡ false
no_more name [] h = refl
no_more name (e ∷ es) h =
    let differs : bytes_eq name (string_bytes e.0) ≡ false = sym (is_eq-slice_cmp name (string_bytes e.0)) ∙ ap is_eq h.0 in
    rw (differs, no_more name es h.1) (or_false _ ∙ and_false (is_schema (view e.1)))

by_order : (o : Ordering) (c r : Bool) (d : Data) (g : Option Data) → r ≡ schema_found g → (o ≡ Equal → r ≡ false) → c ≡ is_schema d
    → ((c && is_eq o) || r) ≡ schema_found (match_ordering o g (Some d) g)
by_order Less c r d g e f h = ap (λ b. b || r) (and_false c) ∙ e
by_order Equal true r d g e f h = h
by_order Equal false r d g e f h = f refl ∙ h
by_order Greater c r d g e f h = ap (λ b. b || r) (and_false c) ∙ e

pub the_member : (name : Text) (es : List Entry) → IsStrictlySortedBy string_cmp (keys_of es)
    → member_among (to_member name) (members_view es) ≡ schema_found (get_member name (members_view es))
unfolding IsStrictlySortedBy
the_member name [] h = refl
the_member name (e ∷ es) h =
    let o = slice_cmp nat_cmp name (string_bytes e.0) in
    let later : o ≡ Equal → member_among (to_member name) (members_view es) ≡ false =
    λ q. no_more name es (subst_all (keys_of es) (sym (same-from-equal name (string_bytes e.0) q)) h.0) in
    ap (λ b. (is_schema (view e.1) && b) || member_among (to_member name) (members_view es))
    (sym (is_eq-slice_cmp name (string_bytes e.0)))
    ∙ by_order o (is_schema (view e.1)) _ (view e.1) _ (the_member name es h.1) later refl
  where
    subst_all : (ks : List (String Global)) → string_bytes e.0 ≡ name → AllByRecursion (λ y. string_cmp e.0 y ≡ Less) ks
        → AllByRecursion (λ y. slice_cmp nat_cmp name (string_bytes y) ≡ Less) ks
    subst_all ks q w = subst (λ x. AllByRecursion (λ y. slice_cmp nat_cmp x (string_bytes y) ≡ Less) ks) q w

pub no_member : (n : ℕ) (ms : Members) → member_among (to_item n) ms ≡ false
no_member n no_members = refl
no_member n (member l d ms) = rw (no_member n ms) (or_false _ ∙ and_false _)

no_item : (name : Text) (i : ℕ) (ds : Items) → item_among (to_member name) i ds ≡ false
no_item name i no_items = refl
no_item name i (item d ds) = rw (no_item name (i + 1) ds) (or_false _ ∙ and_false _)

pub leads_to_no_item : (name : Text) (d : Data) → false ≡ leads_to_item (to_member name) d
leads_to_no_item name (array ds) = sym (no_item name 0 ds)
leads_to_no_item name null = refl
leads_to_no_item name (boolean b) = refl
leads_to_no_item name (number n) = refl
leads_to_no_item name (string x) = refl
leads_to_no_item name (object ms) = refl

-- ---- the item of an index

past_it : (n i : ℕ) (ds : Items) → n < i → item_among (to_item n) i ds ≡ false
past_it n i no_items h = refl
past_it n i (item d ds) h =
    let differs : (n == i) ≡ false = ne_eqb n i (λ e. absurd (omega arith)) in
    rw (differs, past_it n (i + 1) ds (omega arith)) (or_false _ ∙ and_false _)

from_index : (n i : ℕ) (ds : Items) → item_among (to_item (i + n)) i ds ≡ schema_found (get_item n ds)
from_index zero i no_items = refl
from_index (suc n) i no_items = refl
from_index zero i (item d ds) =
    let same : (i + zero == i) ≡ true = eq-eqb (i + zero) i (omega arith) in
    rw (same, past_it (i + zero) (i + 1) ds (omega arith)) (or_false _ ∙ and_true _)
  where
    and_true : (a : Bool) → (a && true) ≡ a
    and_true true = refl
    and_true false = refl
from_index (suc n) i (item d ds) =
    let differs : (i + suc n == i) ≡ false = ne_eqb (i + suc n) i (λ e. absurd (omega arith)) in
    let further : i + suc n ≡ i + 1 + n = omega arith in
    ap (λ b. (is_schema d && b) || item_among (to_item (i + suc n)) (i + 1) ds) differs
    ∙ ap (λ b. b || item_among (to_item (i + suc n)) (i + 1) ds) (and_false (is_schema d))
    ∙ ap (λ m. item_among (to_item m) (i + 1) ds) further
    ∙ from_index n (i + 1) ds

pub the_item : (n : ℕ) (ds : Items) → item_among (to_item n) 0 ds ≡ schema_found (get_item n ds)
the_item n ds = let e : 0 + n ≡ n = omega arith in ap (λ m. item_among (to_item m) 0 ds) (sym e) ∙ from_index n 0 ds

-- ---- the target of a step in a value

pub leads_to_the_member : (name : Text) (d : Data) (es : List Entry) → d ≡ object (members_view es)
    → IsStrictlySortedBy string_cmp (keys_of es) → schema_found (get name d) ≡ leads_to_member (to_member name) d
leads_to_the_member name d es is h = ap (λ x. schema_found (get name x)) is ∙ sym (the_member name es h)
    ∙ ap (leads_to_member (to_member name)) (sym is)

pub leads_to_no_member : (n : ℕ) (d : Data) → false ≡ leads_to_member (to_item n) d
leads_to_no_member n (object ms) = sym (no_member n ms)
leads_to_no_member n null = refl
leads_to_no_member n (boolean b) = refl
leads_to_no_member n (number x) = refl
leads_to_no_member n (string x) = refl
leads_to_no_member n (array ds) = refl

pub leads_to_the_item : (n : ℕ) (d : Data) → schema_found (at n d) ≡ leads_to_item (to_item n) d
leads_to_the_item n (array ds) = sym (the_item n ds)
leads_to_the_item n null = refl
leads_to_the_item n (boolean b) = refl
leads_to_the_item n (number x) = refl
leads_to_the_item n (string x) = refl
leads_to_the_item n (object ms) = refl

-- ---- how long the paths of subschemas are

abbrev pub Long : ℕ → List Place → Type 0
Long n [] = Unit {0}
Long n (p ∷ ps) = (length p ≡ n) × Long n ps

long-append : (n : ℕ) (ps qs : List Place) → Long n ps → Long n qs → Long n (ps ++ qs)
long-append n [] qs h l = l
long-append n (p ∷ ps) qs h l = (h.0, long-append n ps qs h.1 l)

long-flat : (n : ℕ) (f : Text → List Place) → ((k : Text) → Long n (f k)) → (ks : List Text) → Long n (flat_map f ks)
long-flat n f h [] = tt
long-flat n f h (k ∷ ks) = long-append n (f k) (flat_map f ks) (h k) (long-flat n f h ks)

long_members : (k : Text) (ms : Members) → Long 2 (members_below k ms)
long_members k no_members = tt
long_members k (member l d ms) = go (is_schema d) (long_members k ms)
  where
    go : (c : Bool) → Long 2 (members_below k ms) → Long 2 (place_if c (to_member k ∷ to_member l ∷ []) (members_below k ms))
    go true h = (refl, h)
    go false h = h

long_items : (k : Text) (i : ℕ) (ds : Items) → Long 2 (items_below k i ds)
long_items k i no_items = tt
long_items k i (item d ds) = go (is_schema d) (long_items k (i + 1) ds)
  where
    go : (c : Bool) → Long 2 (items_below k (i + 1) ds) → Long 2 (place_if c (to_member k ∷ to_item i ∷ []) (items_below k (i + 1) ds))
    go true h = (refl, h)
    go false h = h

long_object : (k : Text) (o : Option Data) → Long 2 (below_object k o)
long_object k None = tt
long_object k (Some (object ms)) = long_members k ms
long_object k (Some null) = tt
long_object k (Some (boolean b)) = tt
long_object k (Some (number n)) = tt
long_object k (Some (string x)) = tt
long_object k (Some (array ds)) = tt

long_list : (k : Text) (o : Option Data) → Long 2 (below_list k o)
long_list k None = tt
long_list k (Some (array ds)) = long_items k 0 ds
long_list k (Some null) = tt
long_list k (Some (boolean b)) = tt
long_list k (Some (number n)) = tt
long_list k (Some (string x)) = tt
long_list k (Some (object ms)) = tt

long_value : (k : Text) (o : Option Data) → Long 1 (below_value k o)
long_value k None = tt
long_value k (Some d) = go (is_schema d)
  where
    go : (c : Bool) → Long 1 (place_if c (to_member k ∷ []) [])
    go true = (refl, tt)
    go false = tt

module _ (rule : Rule) (draft : Draft) where
  pub long_pairs : (d : Data) → Long 2 (pairs_below rule draft d)
  long_pairs d = long-append 2 _ _
      (long-flat 2 (λ k. below_object k (get k d)) (λ k. long_object k (get k d)) (names_of_objects rule draft))
      (long-flat 2 (λ k. below_list k (get k d)) (λ k. long_list k (get k d)) (names_of_lists rule draft))

  pub long_singles : (d : Data) → Long 1 (singles_below rule draft d)
  long_singles d = long-flat 1 (λ k. below_value k (get k d)) (λ k. long_value k (get k d)) (names_of_values rule draft)

-- a path of another length is not among them
none_of_length : (path : Place) (n : ℕ) (ps : List Place) → Long n ps → (length path ≡ n → ⊥) → list_any (same_place path) ps ≡ false
none_of_length path n [] l h = refl
none_of_length path n (p ∷ ps) l h = rw (differ_in_length path p (λ e. h (e ∙ l.0)), none_of_length path n ps l.1 h) refl

-- ---- a path to a subschema

module _ (rule : Rule) (draft : Draft) where
  pub is_single : (s : Step) (d : Data) → is_subschema rule draft (s ∷ []) d ≡ list_any (same_place (s ∷ [])) (singles_below rule draft d)
  is_single s d = list_any-append (same_place (s ∷ [])) (pairs_below rule draft d) (singles_below rule draft d)
      ∙ ap (λ b. b || list_any (same_place (s ∷ [])) (singles_below rule draft d))
      (none_of_length (s ∷ []) 2 (pairs_below rule draft d) (long_pairs rule draft d) (λ e. absurd (omega arith)))

  pub is_pair : (s t : Step) (d : Data) → is_subschema rule draft (s ∷ t ∷ []) d
      ≡ list_any (same_place (s ∷ t ∷ [])) (pairs_below rule draft d)
  is_pair s t d = list_any-append (same_place (s ∷ t ∷ [])) (pairs_below rule draft d) (singles_below rule draft d)
      ∙ ap (λ b. list_any (same_place (s ∷ t ∷ [])) (pairs_below rule draft d) || b)
      (none_of_length (s ∷ t ∷ []) 1 (singles_below rule draft d) (long_singles rule draft d) (λ e. absurd (omega arith)))
      ∙ or_false _

  pub is_neither : {A : Type 0} (f : A → Step) (xs : List A) (d : Data) → (length xs ≡ 1 → ⊥) → (length xs ≡ 2 → ⊥)
      → is_subschema rule draft (map f xs) d ≡ false
  is_neither f xs d g h =
      let path = map f xs in
      list_any-append (same_place path) (pairs_below rule draft d) (singles_below rule draft d)
      ∙ rw (
        none_of_length path 2 (pairs_below rule draft d) (long_pairs rule draft d) (λ e. h (sym (length-map xs f) ∙ e)),
        none_of_length path 1 (singles_below rule draft d) (long_singles rule draft d) (λ e. g (sym (length-map xs f) ∙ e)),
      ) refl

-- the first steps, as they are read from the list
module _ {A B : Type 0} (f : A → B) where
  pub first_step : (xs : List A) (a : A) → 0 < length xs → a ≡ get_or xs 0 a → take 1 (map f xs) ≡ f a ∷ []
  first_step [] a l h = absurd (omega arith)
  first_step (x ∷ xs) a l h = ap (λ y. f y ∷ []) (sym h)

  pub first_steps : (xs : List A) (a b : A) → 1 < length xs → a ≡ get_or xs 0 a → b ≡ get_or xs 1 b → take 2 (map f xs) ≡ f a ∷ f b ∷ []
  first_steps [] a b l h g = absurd (omega arith)
  first_steps (x ∷ []) a b l h g = absurd (omega arith)
  first_steps (x ∷ y ∷ xs) a b l h g = ap (λ z. f z ∷ f y ∷ []) (sym h) ∙ ap (λ z. f a ∷ f z ∷ []) (sym g)

  -- if there are no more steps
  pub whole : (n : ℕ) (xs : List A) → length xs ≡ n → take n (map f xs) ≡ map f xs
  whole n [] h = rw (sym h) refl
  whole zero (x ∷ xs) h = absurd (omega arith)
  whole (suc n) (x ∷ xs) h = ap (λ ys. f x ∷ ys) (whole n xs (omega arith))

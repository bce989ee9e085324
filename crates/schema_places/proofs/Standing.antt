-- A place has a number exactly if it exists in the instance.
use Rattle.std.proofs.Common.{◌≡◌, ℕ, zero, suc, ◌+◌, ◌&&◌, Bool, true, false, cond, bytes_eq, List, [], ◌∷◌, ◌++◌, map, refl, sym, ◌∙◌, ap, ap₂, arith}
use Rattle.std.specs.Prelude.{Option, Some, None, is_some, option_and_then, option_map, ◌||◌}
use Rattle.std.proofs.lemmas.Slice.Eq.{bytes_eq-Decides}
use Rattle.serde_json.specs.Data.{Data, Items, Members, array, boolean, item, member, no_items, no_members, null, number, object, string}
use Rattle.theory_definitions.specs.Instance.{Place, Step, Subject, Text, a_name, a_value, item_of, item_places, member_of, member_places, places, same_step, subject_from, to_item, to_member, to_name}
use Rattle.schema_places.specs.Numbers.{number_of}
use Rattle.schema_places.proofs.Closing.{root_there, some_block, some_first, some_map}
use Rattle.schema_places.proofs.Names.{NamesApart, NamesApartInItems, NamesApartInMembers, has_name}
use Rattle.schema_places.proofs.Numbers.{items_differ_back, no_below_name, no_item, no_member, step_itself}

-- whether a place has a number, and whether something stands there
abbrev has_number : Place → List Place → Bool
has_number p ps = is_some (number_of p ps)

abbrev has_subject : Place → Option Subject → Bool
has_subject p x = is_some (option_and_then (subject_from p) x)

abbrev a_value_of : Option Data → Option Subject
a_value_of o = option_and_then (λ d. Some (a_value d)) o

or_none : (b : Bool) → (b || false) ≡ b
or_none true = refl
or_none false = refl

-- ---- steps of another kind

member_no_item : (k : Text) (p : Place) (n : ℕ) (ds : Items) → has_number (to_member k ∷ p) (item_places n ds) ≡ false
member_no_item k p n no_items = refl
member_no_item k p n (item d ds) = some_block (to_member k) (to_item n) p (places d) (item_places (n + 1) ds) ∙ member_no_item k p (n + 1) ds

name_no_item : (k : Text) (p : Place) (n : ℕ) (ds : Items) → has_number (to_name k ∷ p) (item_places n ds) ≡ false
name_no_item k p n no_items = refl
name_no_item k p n (item d ds) = some_block (to_name k) (to_item n) p (places d) (item_places (n + 1) ds) ∙ name_no_item k p (n + 1) ds

item_no_member : (n : ℕ) (p : Place) (ms : Members) → has_number (to_item n ∷ p) (member_places ms) ≡ false
item_no_member n p no_members = refl
item_no_member n p (member k d ms) =
    some_first (to_item n ∷ p) (to_name k ∷ []) (map (λ q. to_member k ∷ q) (places d) ++ member_places ms)
    ∙ some_block (to_item n) (to_member k) p (places d) (member_places ms) ∙ item_no_member n p ms

-- ---- items

items_stand : (m n : ℕ) (p : Place) (ds : Items) → NamesApartInItems ds → ((d : Data) → NamesApart d → has_number p (places d) ≡ is_some (subject_from p (a_value d)))
    → has_number (to_item (m + n) ∷ p) (item_places m ds) ≡ has_subject p (a_value_of (item_of n ds))
items_stand m n p no_items a rest = refl
items_stand m zero p (item d ds) a rest =
    let here : m + 0 ≡ m = omega arith in
    let later : number_of (to_item (m + 0) ∷ p) (item_places (m + 1) ds) ≡ None = no_item (m + 0) (m + 1) p ds (omega arith) in
    some_block (to_item (m + 0)) (to_item m) p (places d) (item_places (m + 1) ds)
    ∙ ap₂ (λ x y. (x && has_number p (places d)) || y) (ap (λ (i : ℕ). same_step (to_item i) (to_item m)) here ∙ step_itself (to_item m)) (ap is_some later)
    ∙ or_none (has_number p (places d)) ∙ rest d a.0
items_stand m (suc n) p (item d ds) a rest =
    let next : m + suc n ≡ m + 1 + n = omega arith in
    some_block (to_item (m + suc n)) (to_item m) p (places d) (item_places (m + 1) ds)
    ∙ ap (λ x. (x && has_number p (places d)) || has_number (to_item (m + suc n) ∷ p) (item_places (m + 1) ds)) (items_differ_back (m + suc n) m (omega arith))
    ∙ ap (λ (i : ℕ). has_number (to_item i ∷ p) (item_places (m + 1) ds)) next ∙ items_stand (m + 1) n p ds a.1 rest

-- ---- members

members_stand : (k : Text) (p : Place) (ms : Members) → NamesApartInMembers ms → ((d : Data) → NamesApart d → has_number p (places d) ≡ is_some (subject_from p (a_value d)))
    → has_number (to_member k ∷ p) (member_places ms) ≡ has_subject p (a_value_of (member_of k ms))
members_stand k p no_members a rest = refl
members_stand k p (member l d ms) a rest =
    some_first (to_member k ∷ p) (to_name l ∷ []) (map (λ q. to_member l ∷ q) (places d) ++ member_places ms) ∙ some_block (to_member k) (to_member l) p (places d) (member_places ms)
    ∙ go (bytes_eq k l) refl (members_stand k p ms a.2 rest)
  where
    go : (b : Bool) → bytes_eq k l ≡ b → has_number (to_member k ∷ p) (member_places ms) ≡ has_subject p (a_value_of (member_of k ms))
        → ((b && has_number p (places d)) || has_number (to_member k ∷ p) (member_places ms)) ≡ has_subject p (a_value_of (cond b (Some d) (member_of k ms)))
    go true e h =
        let same : k ≡ l = (bytes_eq-Decides k l).0 e in
        let none : number_of (to_member k ∷ p) (member_places ms) ≡ None = no_member k p ms (ap (λ x. has_name x ms) same ∙ a.0) in
        ap (λ y. has_number p (places d) || y) (ap is_some none) ∙ or_none (has_number p (places d)) ∙ rest d a.1
    go false e h = h

names_stand : (k : Text) (ms : Members) → has_number (to_name k ∷ []) (member_places ms) ≡ has_subject [] (option_and_then (λ d. Some (a_name k)) (member_of k ms))
names_stand k no_members = refl
names_stand k (member l d ms) =
    some_first (to_name k ∷ []) (to_name l ∷ []) (map (λ q. to_member l ∷ q) (places d) ++ member_places ms)
    ∙ ap (λ b. (bytes_eq k l && true) || b) (some_block (to_name k) (to_member l) [] (places d) (member_places ms))
    ∙ go (bytes_eq k l) (names_stand k ms)
  where
    go : (b : Bool) → has_number (to_name k ∷ []) (member_places ms) ≡ has_subject [] (option_and_then (λ d. Some (a_name k)) (member_of k ms))
        → ((b && true) || has_number (to_name k ∷ []) (member_places ms)) ≡ has_subject [] (option_and_then (λ d. Some (a_name k)) (cond b (Some d) (member_of k ms)))
    go true h = refl
    go false h = h

-- ---- all places

nothing_below : (s : Step) (p : Place) (k : Text) (o : Option Data) → has_subject (s ∷ p) (option_and_then (λ d. Some (a_name k)) o) ≡ false
nothing_below s p k None = refl
nothing_below s p k (Some d) = refl

none_more : (p : Place) (ps : List Place) → has_number p ps ≡ false → is_some (option_map (λ n. n + 1) (number_of p ps)) ≡ false
none_more p ps h = some_map (number_of p ps) ∙ h

pub stands_there : (p : Place) (d : Data) → NamesApart d → is_some (number_of p (places d)) ≡ is_some (subject_from p (a_value d))
stands_there [] d a = root_there d
stands_there (to_item n ∷ p) null a = refl
stands_there (to_item n ∷ p) (boolean b) a = refl
stands_there (to_item n ∷ p) (number m) a = refl
stands_there (to_item n ∷ p) (string s) a = refl
stands_there (to_item n ∷ p) (object ms) a = none_more (to_item n ∷ p) (member_places ms) (item_no_member n p ms)
stands_there (to_item n ∷ p) (array ds) a =
    let here : n ≡ 0 + n = omega arith in
    some_map (number_of (to_item n ∷ p) (item_places 0 ds)) ∙ ap (λ (i : ℕ). has_number (to_item i ∷ p) (item_places 0 ds)) here
    ∙ items_stand 0 n p ds a (λ d b. stands_there p d b)
stands_there (to_member k ∷ p) null a = refl
stands_there (to_member k ∷ p) (boolean b) a = refl
stands_there (to_member k ∷ p) (number m) a = refl
stands_there (to_member k ∷ p) (string s) a = refl
stands_there (to_member k ∷ p) (array ds) a = none_more (to_member k ∷ p) (item_places 0 ds) (member_no_item k p 0 ds)
stands_there (to_member k ∷ p) (object ms) a = some_map (number_of (to_member k ∷ p) (member_places ms)) ∙ members_stand k p ms a (λ d b. stands_there p d b)
stands_there (to_name k ∷ p) null a = refl
stands_there (to_name k ∷ p) (boolean b) a = refl
stands_there (to_name k ∷ p) (number m) a = refl
stands_there (to_name k ∷ p) (string s) a = refl
stands_there (to_name k ∷ p) (array ds) a = none_more (to_name k ∷ p) (item_places 0 ds) (name_no_item k p 0 ds)
stands_there (to_name k ∷ []) (object ms) a = some_map (number_of (to_name k ∷ []) (member_places ms)) ∙ names_stand k ms
stands_there (to_name k ∷ s ∷ p) (object ms) a =
    none_more (to_name k ∷ s ∷ p) (member_places ms) (ap is_some (no_below_name k s p ms)) ∙ sym (nothing_below s p k (member_of k ms))

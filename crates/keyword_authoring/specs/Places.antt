-- Which questions are asked at places that exist.
use Rattle.std.proofs.Common.{◌≡◌, ℕ, ◌+◌, ◌<◌, ◌∷◌, [], List, Bool, true, false, Option, Some, None, refl, ap, subst, arith, zero, suc, is_some, min, option_and_then, add-zero, ◌-◌}
use Rattle.std.proofs.lemmas.Slice.Eq.{bytes_eq-Decides}
use Rattle.std.specs.Prelude.{All, bytes_eq, if◌then◌else◌, map, option_map}
use Rattle.std.proofs.lemmas.List.Elements.{All-map, All-nil, All-cons, All-weaker}
use Rattle.theory_definitions.specs.Instance.{Subject, Text, a_name, a_value, item_of, member_of, to_item, to_member, to_name, subject_from, after_step}
use Rattle.serde_json.specs.Data.{Data, Items, Members, array, boolean, item, member, no_items, no_members, null, number, object, string}
use Rattle.theory_definitions.specs.Keywords.{Question, down}
use Rattle.theory_definitions.specs.Laws.{IsPresent, steps_below}
use Rattle.schema_traits.specs.KeywordViews.{option_list}
use Rattle.keyword_authoring.specs.Members.{at_name, first_at_member, has_member, member_count, members_from, name_at, names_in, only_if, subject_names}
use Rattle.keyword_authoring.specs.Somes.{somes}
use Rattle.keyword_authoring.specs.Items.{child_at_item, child_here, each_from, first_at_item, item_count, items_count}

-- each of the questions is asked at a place that exists
abbrev pub AsksPresent : Subject → List Question → Type 0
AsksPresent s qs = All (λ q. IsPresent s (steps_below q.below)) qs

pub member_present : (k : Text) (s : Subject) → has_member k s ≡ true → IsPresent s (to_member k ∷ [])
member_present k s h = leads (after_step (to_member k) s) h
  where
    leads : (o : Option Subject) → is_some o ≡ true → is_some (option_and_then (subject_from []) o) ≡ true
    leads None h = cc
    leads (Some t) h = refl

some_present : (b : Bool) (i : ℕ) (k : Text) (s : Subject) (os : List (Option Question)) → has_member k s ≡ b → AsksPresent s (somes os)
    → AsksPresent s (somes (only_if b (record { child = i; below = down (to_member k) }) ∷ os))
some_present true i k s os h rest = All-cons (λ q. IsPresent s (steps_below q.below)) (record { child = i; below = down (to_member k) }) (somes os) (member_present k s h) rest
some_present false i k s os h rest = rest

-- the members that are present, child by child
pub some_members_present : (i : ℕ) (ks : List Text) (s : Subject) → AsksPresent s (somes (members_from i ks s))
some_members_present i [] s = All-nil _
some_members_present i (k ∷ ks) s = some_present (has_member k s) i k s (members_from (i + 1) ks s) refl (some_members_present (i + 1) ks s)

-- questions that are each asked at a place that exists
pub each_present : (f : ℕ → Question) (s : Subject) (i n : ℕ) → ((k : ℕ) → k < n → IsPresent s (steps_below (f (i + k)).below)) → All (λ q. IsPresent s (steps_below q.below)) (each_from f i n)
each_present f s i zero h = All-nil _
each_present f s i (suc n) h = All-cons (λ q. IsPresent s (steps_below q.below)) (f i) (each_from f (i + 1) n)
    (subst (λ m. IsPresent s (steps_below (f m).below)) (add-zero i) (h 0 (omega arith)))
    (each_present f s (i + 1) n (λ k l. subst (λ m. IsPresent s (steps_below (f m).below)) (one_more i k) (h (k + 1) (omega arith))))
  where
    one_more : (i k : ℕ) → i + (k + 1) ≡ (i + 1) + k
    one_more i k = omega arith

item_there : (k : ℕ) (ds : Items) → k < items_count ds → is_some (item_of k ds) ≡ true
item_there k no_items h = absurd (omega arith)
item_there zero (item d ds) h = refl
item_there (suc k) (item d ds) h = item_there k ds (omega arith)

item_leads : (o : Option Data) → is_some o ≡ true → is_some (option_and_then (subject_from []) (option_and_then (λ d. Some (a_value d)) o)) ≡ true
item_leads None h = cc
item_leads (Some d) h = refl

pub item_present : (s : Subject) (k : ℕ) → k < item_count s → IsPresent s (to_item k ∷ [])
item_present (a_name n) k h = absurd (omega arith)
item_present (a_value null) k h = absurd (omega arith)
item_present (a_value (boolean b)) k h = absurd (omega arith)
item_present (a_value (number n)) k h = absurd (omega arith)
item_present (a_value (string t)) k h = absurd (omega arith)
item_present (a_value (object ms)) k h = absurd (omega arith)
item_present (a_value (array ds)) k h = item_leads (item_of k ds) (item_there k ds h)

pub branch_present : (s : Subject) (o : Option ℕ) → All (λ q. IsPresent s (steps_below q.below)) (option_list (option_map child_here o))
branch_present s None = All-nil _
branch_present s (Some n) = All-cons (λ q. IsPresent s (steps_below q.below)) (child_here n) [] refl (All-nil _)

-- the name of each member leads to it
abbrev pub IsNamed : Members → Text → Type 0
IsNamed ms k = is_some (member_of k ms) ≡ true

named_later : (l k : Text) (d : Data) (ms : Members) → IsNamed ms k → IsNamed (member l d ms) k
named_later l k d ms h = found (bytes_eq k l)
  where
    found : (b : Bool) → is_some (if b then Some d else member_of k ms) ≡ true
    found true = refl
    found false = h

named_here : (k : Text) (d : Data) (ms : Members) → IsNamed (member k d ms) k
named_here k d ms = ap (λ b. is_some (if b then Some d else member_of k ms)) ((bytes_eq-Decides k k).1 refl)

pub each_named : (ms : Members) → All (IsNamed ms) (names_in ms)
each_named no_members = All-nil _
each_named (member k d ms) = All-cons (IsNamed (member k d ms)) k (names_in ms) (named_here k d ms)
    (All-weaker (IsNamed ms) (IsNamed (member k d ms)) (λ l h. named_later k l d ms h) (names_in ms) (each_named ms))

name_leads : (k : Text) (o : Option Data) → is_some o ≡ true → is_some (option_and_then (subject_from []) (option_and_then (λ d. Some (a_name k)) o)) ≡ true
name_leads k None h = cc
name_leads k (Some d) h = refl

pub names_present : (s : Subject) → All (λ q. IsPresent s (steps_below q.below)) (map at_name (subject_names s))
names_present (a_name n) = All-nil _
names_present (a_value null) = All-nil _
names_present (a_value (boolean b)) = All-nil _
names_present (a_value (number n)) = All-nil _
names_present (a_value (string t)) = All-nil _
names_present (a_value (array ds)) = All-nil _
names_present (a_value (object ms)) = All-map (λ q. IsPresent (a_value (object ms)) (steps_below q.below)) at_name (names_in ms)
    (All-weaker (IsNamed ms) (λ k. IsPresent (a_value (object ms)) (to_name k ∷ [])) (λ k h. name_leads k (member_of k ms) h) (names_in ms) (each_named ms))

-- the name of the member with a number leads to it too
member_of_named : (k : Text) (ms : Members) → IsNamed ms k → has_member k (a_value (object ms)) ≡ true
member_of_named k ms h = value_leads (member_of k ms) h
  where
    value_leads : (o : Option Data) → is_some o ≡ true → is_some (option_and_then (λ d. Some (a_value d)) o) ≡ true
    value_leads None h = cc
    value_leads (Some d) h = refl

named_member : (s : Subject) (n : ℕ) → n < member_count s → IsPresent s (to_member (name_at s n) ∷ [])
named_member (a_name k) n h = absurd (omega arith)
named_member (a_value null) n h = absurd (omega arith)
named_member (a_value (boolean b)) n h = absurd (omega arith)
named_member (a_value (number x)) n h = absurd (omega arith)
named_member (a_value (string t)) n h = absurd (omega arith)
named_member (a_value (array ds)) n h = absurd (omega arith)
named_member (a_value (object ms)) n h =
    let s : Subject = a_value (object ms) in member_present (name_at s n) s (member_of_named (name_at s n) ms (each_named ms n [] h))

-- ---- what an author asks

-- nothing
pub nothing_asked : (s : Subject) → AsksPresent s []
nothing_asked s = All-nil _

-- each child at the keyword's own place
pub children_present : (s : Subject) (n : ℕ) → AsksPresent s (each_from child_here 0 n)
children_present s n = each_present child_here s 0 n (λ k h. refl)

-- the only child at each item
pub items_present : (s : Subject) → AsksPresent s (each_from first_at_item 0 (item_count s))
items_present s = each_present first_at_item s 0 (item_count s) (λ k h. item_present s (0 + k) (omega arith))

-- the only child at each item after the first n
pub later_items_present : (s : Subject) (n : ℕ) → AsksPresent s (each_from first_at_item n (item_count s - n))
later_items_present s n = each_present first_at_item s n (item_count s - n) (λ k h. item_present s (n + k) (omega arith))

-- each of n children at the item with its index
pub first_items_present : (s : Subject) (n : ℕ) → AsksPresent s (each_from child_at_item 0 (min n (item_count s)))
first_items_present s n = each_present child_at_item s 0 (min n (item_count s)) (λ k h. item_present s (0 + k) (omega arith))

-- the only child at the value of each member
pub members_present : (s : Subject) → AsksPresent s (each_from (λ n. first_at_member (name_at s n)) 0 (member_count s))
members_present s = each_present (λ n. first_at_member (name_at s n)) s 0 (member_count s) (λ k h. named_member s (0 + k) (omega arith))

-- The places of an instance ascend.
use Rattle.std.proofs.Common.{◌≡◌, ℕ, zero, suc, ◌+◌, ◌-◌, ◌<◌, ◌≤◌, ◌&&◌, Bool, true, false, bytes_eq, List, [], ◌∷◌, ◌++◌, length, map, refl, ◌∙◌, ap, ap₂, arith, true≢false, ⊎_elim, length-append}
use Rattle.std.specs.Prelude.{◌||◌}
use Rattle.std.specs.Ordering.{is_lt}
use Rattle.std.proofs.lemmas.Bool.{cases_lt, lt-ltb}
use Rattle.std.proofs.lemmas.List.{length-map}
use Rattle.serde_json.specs.Data.{Data, Items, Members, array, boolean, item, member, no_items, no_members, null, number, object, string}
use Rattle.theory_definitions.specs.Instance.{Place, Step, Text, item_places, member_places, places, same_place, same_step, to_item, to_member, to_name}
use Rattle.schema_places.specs.Numbers.{Ascends, place_before, step_before, text_before}
use Rattle.schema_places.specs.Rows.{ComesFirst, NamesAscend, NamesAscendInItems, NamesAscendInMembers}
use Rattle.schema_places.proofs.Numbers.{at_block, item_more, member_more, past_block, step_itself}
use Rattle.schema_places.proofs.Under.{at}

or_first : (a b : Bool) → a ≡ true → (a || b) ≡ true
or_first a b e = ap (λ x. x || b) e

or_second : (a b : Bool) → b ≡ true → (a || b) ≡ true
or_second true b e = refl
or_second false b e = e

-- a place begins with a step that comes after this one
record BeginsAfter (h : Step) (p : Place) : Type 0 where
  first : Step
  rest : Place
  is : p ≡ first ∷ rest
  later : step_before h first ≡ true

begins_after : (h first : Step) (p rest : Place) → p ≡ first ∷ rest → step_before h first ≡ true → BeginsAfter h p
begins_after h first p rest e l = record { first = first; rest = rest; is = e; later = l }

before_later : (h : Step) (p q : Place) → BeginsAfter h q → place_before (h ∷ p) q ≡ true
before_later h p q b = ap (place_before (h ∷ p)) b.is ∙ or_first (step_before h b.first) (same_step h b.first && place_before p b.rest) b.later

before_within : (h : Step) (p q : Place) → place_before p q ≡ true → place_before (h ∷ p) (h ∷ q) ≡ true
before_within h p q e = or_second (step_before h h) (same_step h h && place_before p q) (ap₂ (λ x y. x && y) (step_itself h) e)

root_first : (q : Place) → same_place q [] ≡ false → place_before [] q ≡ true
root_first [] h = absurd (true≢false h)
root_first (s ∷ q) h = refl

-- ---- a block of places that begin with one step, and what follows it

block_ascends : (h : Step) (qs ys : List Place) (m n : ℕ) → m < n → n < length qs + length ys
    → ((i j : ℕ) → i < j → j < length qs → place_before (at qs i) (at qs j) ≡ true)
    → ((j : ℕ) → j < length ys → BeginsAfter h (at ys j))
    → ((i j : ℕ) → i < j → j < length ys → place_before (at ys i) (at ys j) ≡ true)
    → place_before (at (map (λ q. h ∷ q) qs ++ ys) m) (at (map (λ q. h ∷ q) qs ++ ys) n) ≡ true
block_ascends h qs ys m n l w own after later =
    let c = length qs in
    ⊎_elim
    (λ (v : n < c). ap₂ place_before (at_block h qs ys m (omega arith)) (at_block h qs ys n v) ∙ before_within h (at qs m) (at qs n) (own m n l v))
    (λ (v : c ≤ n).
    ⊎_elim
    (λ (u : m < c). ap₂ place_before (at_block h qs ys m u) (past_block h qs ys n v) ∙ before_later h (at qs m) (at ys (n - c)) (after (n - c) (omega arith)))
    (λ (u : c ≤ m). ap₂ place_before (past_block h qs ys m u) (past_block h qs ys n v) ∙ later (m - c) (n - c) (omega arith) (omega arith))
    (cases_lt m c))
    (cases_lt n c)

items_after : (n m : ℕ) (ds : Items) (j : ℕ) → n < m → j < length (item_places m ds) → BeginsAfter (to_item n) (at (item_places m ds) j)
items_after n m no_items j l w = absurd (omega arith)
items_after n m (item d ds) j l w =
    let size = length-append (map (λ p. to_item m ∷ p) (places d)) (item_places (m + 1) ds) in
    let own = length-map (places d) (λ p. to_item m ∷ p) in
    ⊎_elim
    (λ (h : j < length (places d)). begins_after (to_item n) (to_item m) _ (at (places d) j) (at_block (to_item m) (places d) (item_places (m + 1) ds) j h) (lt-ltb n m l))
    (λ (h : length (places d) ≤ j). (
    let e = past_block (to_item m) (places d) (item_places (m + 1) ds) j h in
    let b = items_after n (m + 1) ds (j - length (places d)) (omega arith) (omega (arith, size, own)) in
    begins_after (to_item n) b.first _ b.rest (e ∙ b.is) b.later
    ))
    (cases_lt j (length (places d)))

-- after a name and its member
record FollowsBoth (k : Text) (p : Place) : Type 0 where
  name : BeginsAfter (to_name k) p
  value : BeginsAfter (to_member k) p

moved_on : (k : Text) (p q : Place) → p ≡ q → FollowsBoth k q → FollowsBoth k p
moved_on k p q e f = record {
  name = begins_after (to_name k) f.name.first p f.name.rest (e ∙ f.name.is) f.name.later;
  value = begins_after (to_member k) f.value.first p f.value.rest (e ∙ f.value.is) f.value.later;
}

members_after : (k : Text) (ms : Members) (j : ℕ) → ComesFirst k ms → j < length (member_places ms) → FollowsBoth k (at (member_places ms) j)
members_after k no_members j a w = absurd (omega arith)
members_after k (member l d ms) zero a w =
    let less : text_before k l ≡ true = ap is_lt a.0 in
    record { name = begins_after (to_name k) (to_name l) _ [] refl less; value = begins_after (to_member k) (to_name l) _ [] refl less }
members_after k (member l d ms) (suc j) a w =
    let less : text_before k l ≡ true = ap is_lt a.0 in
    let size = length-append (map (λ p. to_member l ∷ p) (places d)) (member_places ms) in
    let own = length-map (places d) (λ p. to_member l ∷ p) in
    ⊎_elim
    (λ (h : j < length (places d)). (
    let e = at_block (to_member l) (places d) (member_places ms) j h in
    let r : FollowsBoth k (at (map (λ p. to_member l ∷ p) (places d) ++ member_places ms) j) = record {
      name = begins_after (to_name k) (to_member l) _ (at (places d) j) e (or_first (text_before k l) (bytes_eq k l) less);
      value = begins_after (to_member k) (to_member l) _ (at (places d) j) e less;
    } in r
    ))
    (λ (h : length (places d) ≤ j). moved_on k _ _ (past_block (to_member l) (places d) (member_places ms) j h) (members_after k ms (j - length (places d)) a.1 (omega (arith, size, own))))
    (cases_lt j (length (places d)))

-- a name comes before all at or below its member
name_first : (k : Text) (p : Place) → place_before (to_name k ∷ []) (to_member k ∷ p) ≡ true
name_first k p = or_first (text_before k k || bytes_eq k k) (false && place_before [] p) (or_second (text_before k k) (bytes_eq k k) (step_itself (to_name k)))

-- ---- all places

mutual
  ascends_at : (d : Data) (m n : ℕ) → NamesAscend d → m < n → n < length (places d) → place_before (at (places d) m) (at (places d) n) ≡ true
  ascends_at null m n a l w = absurd (omega arith)
  ascends_at (boolean b) m n a l w = absurd (omega arith)
  ascends_at (number x) m n a l w = absurd (omega arith)
  ascends_at (string s) m n a l w = absurd (omega arith)
  ascends_at (array ds) m zero a l w = absurd (omega arith)
  ascends_at (array ds) zero (suc n) a l w = root_first (at (item_places 0 ds) n) (item_more 0 ds n (omega arith))
  ascends_at (array ds) (suc m) (suc n) a l w = items_ascend 0 ds m n a (omega arith) (omega arith)
  ascends_at (object ms) m zero a l w = absurd (omega arith)
  ascends_at (object ms) zero (suc n) a l w = root_first (at (member_places ms) n) (member_more ms n (omega arith))
  ascends_at (object ms) (suc m) (suc n) a l w = members_ascend ms m n a (omega arith) (omega arith)

  items_ascend : (b : ℕ) (ds : Items) (m n : ℕ) → NamesAscendInItems ds → m < n → n < length (item_places b ds) → place_before (at (item_places b ds) m) (at (item_places b ds) n) ≡ true
  items_ascend b no_items m n a l w = absurd (omega arith)
  items_ascend b (item d ds) m n a l w =
      let ys = item_places (b + 1) ds in
      let all = length-append (map (λ p. to_item b ∷ p) (places d)) ys ∙ ap (λ x. x + length ys) (length-map (places d) (λ p. to_item b ∷ p)) in
      block_ascends (to_item b) (places d) ys m n l (omega (arith, all)) (λ i j u v. ascends_at d i j a.0 u v)
      (λ j v. items_after b (b + 1) ds j (omega arith) v) (λ i j u v. items_ascend (b + 1) ds i j a.1 u v)

  members_ascend : (ms : Members) (m n : ℕ) → NamesAscendInMembers ms → m < n → n < length (member_places ms) → place_before (at (member_places ms) m) (at (member_places ms) n) ≡ true
  members_ascend no_members m n a l w = absurd (omega arith)
  members_ascend (member k d ms) m zero a l w = absurd (omega arith)
  members_ascend (member k d ms) zero (suc n) a l w =
      let ys = member_places ms in
      let all = length-append (map (λ p. to_member k ∷ p) (places d)) ys ∙ ap (λ x. x + length ys) (length-map (places d) (λ p. to_member k ∷ p)) in
      ⊎_elim
      (λ (v : n < length (places d)). ap (place_before (to_name k ∷ [])) (at_block (to_member k) (places d) ys n v) ∙ name_first k (at (places d) n))
      (λ (v : length (places d) ≤ n). ap (place_before (to_name k ∷ [])) (past_block (to_member k) (places d) ys n v)
      ∙ before_later (to_name k) [] (at ys (n - length (places d))) (members_after k ms (n - length (places d)) a.0 (omega (arith, all))).name)
      (cases_lt n (length (places d)))
  members_ascend (member k d ms) (suc m) (suc n) a l w =
      let ys = member_places ms in
      let all = length-append (map (λ p. to_member k ∷ p) (places d)) ys ∙ ap (λ x. x + length ys) (length-map (places d) (λ p. to_member k ∷ p)) in
      block_ascends (to_member k) (places d) ys m n (omega arith) (omega (arith, all)) (λ i j u v. ascends_at d i j a.1 u v)
      (λ j v. (members_after k ms j a.0 v).value) (λ i j u v. members_ascend ms i j a.2 u v)

pub places_ascend : (d : Data) → NamesAscend d → Ascends (places d)
places_ascend d a m n l w = ascends_at d m n a l w

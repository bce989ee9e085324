-- The places at or below one stand in a row, from its own number to that of the last of them.
use Rattle.std.proofs.Common.{◌≡◌, ℕ, zero, suc, ◌+◌, ◌-◌, ◌<◌, ◌≤◌, ◌&&◌, Bool, true, false, leb, List, [], ◌∷◌, ◌++◌, length, get_or, map, refl, sym, ◌∙◌, ap, ap₂, subst, arith, true≢false, ⊎_elim, length-append}
use Rattle.std.specs.Prelude.{◌⊎◌}
use Rattle.std.proofs.lemmas.Bool.{cases_lt, eqb-true, leb-false, leb-true}
use Rattle.std.proofs.lemmas.List.{length-map, get_or_append_left, get_or-append_right}
use Rattle.std.proofs.lemmas.Slice.Eq.{bytes_eq-Decides}
use Rattle.serde_json.specs.Data.{Data, Items, Members, array, boolean, item, member, no_items, no_members, null, number, object, string}
use Rattle.theory_definitions.specs.Instance.{Place, Step, item_places, member_places, places, same_place, same_step, to_item, to_member, to_name}
use Rattle.schema_places.specs.Numbers.{is_under}
use Rattle.schema_places.specs.Rows.{Laid, item_rows, member_rows, rows_at}
use Rattle.schema_places.proofs.Names.{NamesApart, NamesApartInItems, NamesApartInMembers}
use Rattle.schema_places.proofs.Laying.{length_rows}
use Rattle.schema_places.proofs.Numbers.{Begins, at_block, item_begins, item_more, member_begins, member_more, no_row, past_block, step_itself}

pub step_equal : (s t : Step) → same_step s t ≡ true → s ≡ t
step_equal (to_member k) (to_member l) h = ap to_member ((bytes_eq-Decides k l).0 h)
step_equal (to_member k) (to_item i) h = absurd (true≢false (sym h))
step_equal (to_member k) (to_name i) h = absurd (true≢false (sym h))
step_equal (to_item k) (to_member l) h = absurd (true≢false (sym h))
step_equal (to_item k) (to_item l) h = ap to_item (eqb-true k l h)
step_equal (to_item k) (to_name l) h = absurd (true≢false (sym h))
step_equal (to_name k) (to_member l) h = absurd (true≢false (sym h))
step_equal (to_name k) (to_item l) h = absurd (true≢false (sym h))
step_equal (to_name k) (to_name l) h = ap to_name ((bytes_eq-Decides k l).0 h)

step_swap : (s t : Step) → same_step s t ≡ false → same_step t s ≡ false
step_swap s t h = go (same_step t s) refl
  where
    go : (b : Bool) → same_step t s ≡ b → b ≡ false
    go false e = refl
    go true e = absurd (true≢false (sym (subst (λ (x : Step). same_step x t ≡ true) (step_equal t s e) (step_itself t)) ∙ h))

-- ---- from a number to another

-- from the number i to the number e, where numbers begin at b
abbrev pub within : ℕ → ℕ → ℕ → ℕ → Bool
within b e i k = leb i k && leb (b + k) e

leb_true : (a b : ℕ) → a ≤ b → leb a b ≡ true
leb_true a b l = go (leb a b) refl
  where
    go : (x : Bool) → leb a b ≡ x → x ≡ true
    go true e = refl
    go false e = absurd (omega (arith, leb-false a b e))

is_within : (b e i k : ℕ) → i ≤ k → b + k ≤ e → within b e i k ≡ true
is_within b e i k l m = ap₂ (λ x y. x && y) (leb_true i k l) (leb_true (b + k) e m)

leb_no : (a b : ℕ) → b < a → leb a b ≡ false
leb_no a b l = go (leb a b) refl
  where
    go : (x : Bool) → leb a b ≡ x → x ≡ false
    go false e = refl
    go true e = let f : a ≤ b = leb-true a b e in absurd (omega arith)

before : (b e i k : ℕ) → k < i → within b e i k ≡ false
before b e i k l = ap (λ x. x && leb (b + k) e) (leb_no i k l)

and_false : (b : Bool) → (b && false) ≡ false
and_false true = refl
and_false false = refl

after : (b e i k : ℕ) → e < b + k → within b e i k ≡ false
after b e i k l = ap (λ x. leb i k && x) (leb_no (b + k) e l) ∙ and_false (leb i k)

leb_same : (a b c d : ℕ) → (a ≤ b → c ≤ d) → (c ≤ d → a ≤ b) → leb a b ≡ leb c d
leb_same a b c d f g = go (leb a b) refl
  where
    go : (x : Bool) → leb a b ≡ x → x ≡ leb c d
    go true e = sym (leb_true c d (f (leb-true a b e)))
    go false e = sym (other (cases_lt d c))
      where
        other : (d < c) ⊎ (c ≤ d) → leb c d ≡ false
        other w = ⊎_elim (λ l. leb_no c d l) (λ (l : c ≤ d). absurd (true≢false (sym (leb_true a b (g l)) ∙ e))) w

moved : (b e i k n : ℕ) → n ≤ i → n ≤ k → within (b + n) e (i - n) (k - n) ≡ within b e i k
moved b e i k n l m =
    let f : b + n + (k - n) ≡ b + k = omega arith in
    ap₂ (λ x (y : ℕ). x && leb y e) (leb_same (i - n) (k - n) i k (λ h. omega arith) (λ h. omega arith)) f

moved_one : (b e i k : ℕ) → within (b + 1) e i k ≡ within b e (suc i) (suc k)
moved_one b e i k =
    let f : b + 1 + k ≡ b + suc k = omega arith in
    ap₂ (λ x (y : ℕ). x && leb y e) (leb_same i k (suc i) (suc k) (λ h. omega arith) (λ h. omega arith)) f

-- ---- places that begin apart

abbrev pub at : List Place → ℕ → Place
at ps i = get_or ps i []

abbrev pub last_of : List Laid → ℕ → ℕ
last_of rows i = (get_or rows i no_row).last

not_above : (h : Step) (p q : Place) → Begins h q → is_under (h ∷ p) q ≡ false
not_above h p q b = ap (is_under (h ∷ p)) b.is ∙ ap (λ x. x && is_under p b.rest) (step_swap b.first h b.other)

not_below : (h : Step) (p q : Place) → Begins h p → is_under p (h ∷ q) ≡ false
not_below h p q b = ap (λ (x : Place). is_under x (h ∷ q)) b.is ∙ ap (λ x. x && is_under b.rest q) b.other

-- ---- the last number is at least a place's own, and within the value

block_bounds : (b : ℕ) (d : Data) (rows : List Laid) (i more all : ℕ) → all ≡ length (places d) + more → i < all
    → (i < length (places d) → (b + i ≤ last_of (rows_at b d) i) × (last_of (rows_at b d) i < b + length (places d)))
    → (i - length (places d) < more → (b + length (places d) + (i - length (places d)) ≤ last_of rows (i - length (places d))) × (last_of rows (i - length (places d)) < b + length (places d) + more))
    → (b + i ≤ last_of (rows_at b d ++ rows) i) × (last_of (rows_at b d ++ rows) i < b + all)
block_bounds b d rows i more all e l own later =
    let n = length (places d) in
    let size = length_rows b d in
    ⊎_elim
    (λ (w : i < n).
    let is : last_of (rows_at b d ++ rows) i ≡ last_of (rows_at b d) i = ap (λ (r : Laid). r.last) (get_or_append_left (rows_at b d) rows no_row i (omega (arith, size))) in
    let r = own w in
    (omega (arith, is, r.0), omega (arith, is, r.1)))
    (λ (w : n ≤ i).
    let is : last_of (rows_at b d ++ rows) i ≡ last_of rows (i - n) = ap (λ (r : Laid). r.last) (get_or-append_right (rows_at b d) rows n i no_row size w) in
    let r = later (omega arith) in
    (omega (arith, is, r.0), omega (arith, is, r.1)))
    (cases_lt i n)

mutual
  pub last_bounds : (b : ℕ) (d : Data) (i : ℕ) → i < length (places d) → (b + i ≤ last_of (rows_at b d) i) × (last_of (rows_at b d) i < b + length (places d))
  last_bounds b null zero l = (omega arith, omega arith)
  last_bounds b null (suc i) l = absurd (omega arith)
  last_bounds b (boolean x) zero l = (omega arith, omega arith)
  last_bounds b (boolean x) (suc i) l = absurd (omega arith)
  last_bounds b (number n) zero l = (omega arith, omega arith)
  last_bounds b (number n) (suc i) l = absurd (omega arith)
  last_bounds b (string s) zero l = (omega arith, omega arith)
  last_bounds b (string s) (suc i) l = absurd (omega arith)
  last_bounds b (array ds) zero l = (omega arith, omega arith)
  last_bounds b (array ds) (suc i) l = let r = item_bounds (b + 1) 0 ds i (omega arith) in (omega (arith, r.0), omega (arith, r.1))
  last_bounds b (object ms) zero l = (omega arith, omega arith)
  last_bounds b (object ms) (suc i) l = let r = member_bounds (b + 1) ms i (omega arith) in (omega (arith, r.0), omega (arith, r.1))

  item_bounds : (b n : ℕ) (ds : Items) (i : ℕ) → i < length (item_places n ds) → (b + i ≤ last_of (item_rows b ds) i) × (last_of (item_rows b ds) i < b + length (item_places n ds))
  item_bounds b n no_items i l = absurd (omega arith)
  item_bounds b n (item d ds) i l =
      let size = length-append (map (λ p. to_item n ∷ p) (places d)) (item_places (n + 1) ds) in
      let block = length-map (places d) (λ p. to_item n ∷ p) in
      block_bounds b d (item_rows (b + length (places d)) ds) i (length (item_places (n + 1) ds)) _ (size ∙ ap (λ x. x + length (item_places (n + 1) ds)) block) l
      (λ w. last_bounds b d i w) (λ w. item_bounds (b + length (places d)) (n + 1) ds (i - length (places d)) w)

  member_bounds : (b : ℕ) (ms : Members) (i : ℕ) → i < length (member_places ms) → (b + i ≤ last_of (member_rows b ms) i) × (last_of (member_rows b ms) i < b + length (member_places ms))
  member_bounds b no_members i l = absurd (omega arith)
  member_bounds b (member k d ms) zero l = (omega arith, omega arith)
  member_bounds b (member k d ms) (suc i) l =
      let size = length-append (map (λ p. to_member k ∷ p) (places d)) (member_places ms) in
      let block = length-map (places d) (λ p. to_member k ∷ p) in
      let r = block_bounds (b + 1) d (member_rows (b + 1 + length (places d)) ms) i (length (member_places ms)) _ (size ∙ ap (λ x. x + length (member_places ms)) block) (omega arith)
      (λ w. last_bounds (b + 1) d i w) (λ w. member_bounds (b + 1 + length (places d)) ms (i - length (places d)) w) in
      (omega (arith, r.0), omega (arith, r.1))

-- ---- below a place

block_under : (b : ℕ) (h : Step) (d : Data) (ys : List Place) (rows : List Laid) (i k : ℕ) → i < length (places d) + length ys → k < length (places d) + length ys
    → ((j : ℕ) → j < length ys → Begins h (at ys j))
    → (i < length (places d) → k < length (places d) → is_under (at (places d) i) (at (places d) k) ≡ within b (last_of (rows_at b d) i) i k)
    → (i - length (places d) < length ys → k - length (places d) < length ys → is_under (at ys (i - length (places d))) (at ys (k - length (places d)))
    ≡ within (b + length (places d)) (last_of rows (i - length (places d))) (i - length (places d)) (k - length (places d)))
    → is_under (at (map (λ q. h ∷ q) (places d) ++ ys) i) (at (map (λ q. h ∷ q) (places d) ++ ys) k) ≡ within b (last_of (rows_at b d ++ rows) i) i k
block_under b h d ys rows i k l m begins own later =
    let qs = places d in
    let n = length qs in
    let size = length_rows b d in
    ⊎_elim
    (λ (w : i < n).
    let is : last_of (rows_at b d ++ rows) i ≡ last_of (rows_at b d) i = ap (λ (r : Laid). r.last) (get_or_append_left (rows_at b d) rows no_row i (omega (arith, size))) in
    let here = at_block h qs ys i w in
    ⊎_elim
    (λ (v : k < n).
    ap₂ is_under here (at_block h qs ys k v) ∙ ap (λ x. x && is_under (at qs i) (at qs k)) (step_itself h) ∙ own w v ∙ ap (λ e. within b e i k) (sym is))
    (λ (v : n ≤ k).
    let bound = (last_bounds b d i w).1 in
    ap₂ is_under here (past_block h qs ys k v) ∙ not_above h (at qs i) (at ys (k - n)) (begins (k - n) (omega arith))
    ∙ sym (after b (last_of (rows_at b d ++ rows) i) i k (omega (arith, is, bound))))
    (cases_lt k n))
    (λ (w : n ≤ i).
    let is : last_of (rows_at b d ++ rows) i ≡ last_of rows (i - n) = ap (λ (r : Laid). r.last) (get_or-append_right (rows_at b d) rows n i no_row size w) in
    let here = past_block h qs ys i w in
    ⊎_elim
    (λ (v : k < n).
    ap₂ is_under here (at_block h qs ys k v) ∙ not_below h (at ys (i - n)) (at qs k) (begins (i - n) (omega arith))
    ∙ sym (before b (last_of (rows_at b d ++ rows) i) i k (omega arith)))
    (λ (v : n ≤ k).
    ap₂ is_under here (past_block h qs ys k v) ∙ later (omega arith) (omega arith)
    ∙ moved b (last_of rows (i - n)) i k n w v ∙ ap (λ e. within b e i k) (sym is))
    (cases_lt k n))
    (cases_lt i n)

root_leaf : (b k : ℕ) → k < 1 → is_under [] (at ([] ∷ []) k) ≡ within b b 0 k
root_leaf b k l = sym (is_within b b 0 k (omega arith) (omega arith))

root_over : (b n k : ℕ) → k < suc n → true ≡ within b (b + n) 0 k
root_over b n k l = sym (is_within b (b + n) 0 k (omega arith) (omega arith))

end_over : (p : Place) → same_place p [] ≡ false → is_under p [] ≡ false
end_over [] h = absurd (true≢false h)
end_over (s ∷ p) h = refl

mutual
  pub under_at : (b : ℕ) (d : Data) (i k : ℕ) → NamesApart d → i < length (places d) → k < length (places d) → is_under (at (places d) i) (at (places d) k) ≡ within b (last_of (rows_at b d) i) i k
  under_at b null zero k a l m = root_leaf b k m
  under_at b null (suc i) k a l m = absurd (omega arith)
  under_at b (boolean x) zero k a l m = root_leaf b k m
  under_at b (boolean x) (suc i) k a l m = absurd (omega arith)
  under_at b (number n) zero k a l m = root_leaf b k m
  under_at b (number n) (suc i) k a l m = absurd (omega arith)
  under_at b (string s) zero k a l m = root_leaf b k m
  under_at b (string s) (suc i) k a l m = absurd (omega arith)
  under_at b (array ds) zero k a l m = root_over b (length (item_places 0 ds)) k m
  under_at b (array ds) (suc i) zero a l m =
      end_over (at (item_places 0 ds) i) (item_more 0 ds i (omega arith)) ∙ sym (before b (last_of (rows_at b (array ds)) (suc i)) (suc i) 0 (omega arith))
  under_at b (array ds) (suc i) (suc k) a l m = under_items (b + 1) 0 ds i k a (omega arith) (omega arith) ∙ moved_one b (last_of (item_rows (b + 1) ds) i) i k
  under_at b (object ms) zero k a l m = root_over b (length (member_places ms)) k m
  under_at b (object ms) (suc i) zero a l m =
      end_over (at (member_places ms) i) (member_more ms i (omega arith)) ∙ sym (before b (last_of (rows_at b (object ms)) (suc i)) (suc i) 0 (omega arith))
  under_at b (object ms) (suc i) (suc k) a l m = under_members (b + 1) ms i k a (omega arith) (omega arith) ∙ moved_one b (last_of (member_rows (b + 1) ms) i) i k

  under_items : (b n : ℕ) (ds : Items) (i k : ℕ) → NamesApartInItems ds → i < length (item_places n ds) → k < length (item_places n ds)
      → is_under (at (item_places n ds) i) (at (item_places n ds) k) ≡ within b (last_of (item_rows b ds) i) i k
  under_items b n no_items i k a l m = absurd (omega arith)
  under_items b n (item d ds) i k a l m =
      let ys = item_places (n + 1) ds in
      let all = length-append (map (λ p. to_item n ∷ p) (places d)) ys ∙ ap (λ x. x + length ys) (length-map (places d) (λ p. to_item n ∷ p)) in
      block_under b (to_item n) d ys (item_rows (b + length (places d)) ds) i k (omega (arith, all)) (omega (arith, all))
      (λ j w. item_begins n (n + 1) ds j (omega arith) w) (λ w v. under_at b d i k a.0 w v)
      (λ w v. under_items (b + length (places d)) (n + 1) ds (i - length (places d)) (k - length (places d)) a.1 w v)

  under_members : (b : ℕ) (ms : Members) (i k : ℕ) → NamesApartInMembers ms → i < length (member_places ms) → k < length (member_places ms)
      → is_under (at (member_places ms) i) (at (member_places ms) k) ≡ within b (last_of (member_rows b ms) i) i k
  under_members b no_members i k a l m = absurd (omega arith)
  under_members b (member t d ms) zero zero a l m = ap (λ x. x && true) (step_itself (to_name t)) ∙ sym (is_within b b 0 0 (omega arith) (omega arith))
  under_members b (member t d ms) zero (suc k) a l m =
      let ys = member_places ms in
      let all = length-append (map (λ p. to_member t ∷ p) (places d)) ys ∙ ap (λ x. x + length ys) (length-map (places d) (λ p. to_member t ∷ p)) in
      ⊎_elim
      (λ (v : k < length (places d)). ap (is_under (to_name t ∷ [])) (at_block (to_member t) (places d) ys k v))
      (λ (v : length (places d) ≤ k). ap (is_under (to_name t ∷ [])) (past_block (to_member t) (places d) ys k v)
      ∙ not_above (to_name t) [] (at ys (k - length (places d))) (member_begins t ms (k - length (places d)) a.0 (omega (arith, all))).name)
      (cases_lt k (length (places d)))
      ∙ sym (after b b 0 (suc k) (omega arith))
  under_members b (member t d ms) (suc i) zero a l m =
      let ys = member_places ms in
      let all = length-append (map (λ p. to_member t ∷ p) (places d)) ys ∙ ap (λ x. x + length ys) (length-map (places d) (λ p. to_member t ∷ p)) in
      ⊎_elim
      (λ (v : i < length (places d)). ap (λ (p : Place). is_under p (to_name t ∷ [])) (at_block (to_member t) (places d) ys i v))
      (λ (v : length (places d) ≤ i). ap (λ (p : Place). is_under p (to_name t ∷ [])) (past_block (to_member t) (places d) ys i v)
      ∙ not_below (to_name t) (at ys (i - length (places d))) [] (member_begins t ms (i - length (places d)) a.0 (omega (arith, all))).name)
      (cases_lt i (length (places d)))
      ∙ sym (before b (last_of (member_rows b (member t d ms)) (suc i)) (suc i) 0 (omega arith))
  under_members b (member t d ms) (suc i) (suc k) a l m =
      let ys = member_places ms in
      let all = length-append (map (λ p. to_member t ∷ p) (places d)) ys ∙ ap (λ x. x + length ys) (length-map (places d) (λ p. to_member t ∷ p)) in
      block_under (b + 1) (to_member t) d ys (member_rows (b + 1 + length (places d)) ms) i k (omega (arith, all)) (omega (arith, all))
      (λ j w. (member_begins t ms j a.0 w).value) (λ w v. under_at (b + 1) d i k a.1 w v)
      (λ w v. under_members (b + 1 + length (places d)) ms (i - length (places d)) (k - length (places d)) a.2 w v)
      ∙ moved_one b (last_of (rows_at (b + 1) d ++ member_rows (b + 1 + length (places d)) ms) i) i k

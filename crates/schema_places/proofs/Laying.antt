-- Rows are laid out one place after another.
use Rattle.std.proofs.Common.{◌≡◌, ℕ, suc, ◌+◌, ◌-◌, List, [], ◌∷◌, ◌++◌, length, map, refl, sym, ◌∙◌, ap, ap₂, arith, string_bytes, string_cmp, Less, length-append, append_assoc}
use Rattle.std.specs.Prelude.{slice_set}
use Rattle.std.proofs.lemmas.List.{length-map}
use Rattle.std.specs.List.{AllByRecursion}
use Rattle.std.specs.List.Sorted.{IsStrictlySortedBy}
use Rattle.std.specs.Map.{keys_of}
use Rattle.serde_json.specs.Data.{Data, Items, Members, array, boolean, item, member, no_items, no_members, null, number, object, string}
use Rattle.serde_json.specs.View.{members_view}
use Rattle.serde_json.proofs.Views.{Entry}
use Rattle.theory_definitions.specs.Instance.{Text, to_item, to_member, item_places, member_places, places}
use Rattle.schema_places.specs.Rows.{ComesFirst, Laid, LaidBelow, item_rows, laid, member_rows, own_name, rows_at}

-- ---- how many rows there are

items_apart : (n m : ℕ) (ds : Items) → length (item_places n ds) ≡ length (item_places m ds)
items_apart n m no_items = refl
items_apart n m (item d ds) =
    length-append (map (λ p. to_item n ∷ p) (places d)) (item_places (n + 1) ds)
    ∙ ap₂ (λ a b. a + b) (length-map (places d) (λ p. to_item n ∷ p) ∙ sym (length-map (places d) (λ p. to_item m ∷ p))) (items_apart (n + 1) (m + 1) ds)
    ∙ sym (length-append (map (λ p. to_item m ∷ p) (places d)) (item_places (m + 1) ds))

mutual
  pub length_rows : (b : ℕ) (d : Data) → length (rows_at b d) ≡ length (places d)
  length_rows b null = refl
  length_rows b (boolean x) = refl
  length_rows b (number n) = refl
  length_rows b (string s) = refl
  length_rows b (array ds) = ap suc (length_items (b + 1) 0 ds)
  length_rows b (object ms) = ap suc (length_members (b + 1) ms)

  pub length_items : (b n : ℕ) (ds : Items) → length (item_rows b ds) ≡ length (item_places n ds)
  length_items b n no_items = refl
  length_items b n (item d ds) =
      length-append (rows_at b d) (item_rows (b + length (places d)) ds)
      ∙ ap₂ (λ x y. x + y) (length_rows b d ∙ sym (length-map (places d) (λ p. to_item n ∷ p))) (length_items (b + length (places d)) (n + 1) ds)
      ∙ sym (length-append (map (λ p. to_item n ∷ p) (places d)) (item_places (n + 1) ds))

  pub length_members : (b : ℕ) (ms : Members) → length (member_rows b ms) ≡ length (member_places ms)
  length_members b no_members = refl
  length_members b (member k d ms) = ap suc (
      length-append (rows_at (b + 1) d) (member_rows (b + 1 + length (places d)) ms)
      ∙ ap₂ (λ x y. x + y) (length_rows (b + 1) d ∙ sym (length-map (places d) (λ p. to_member k ∷ p))) (length_members (b + 1 + length (places d)) ms)
      ∙ sym (length-append (map (λ p. to_member k ∷ p) (places d)) (member_places ms))
      )

-- ---- a value's own row is put in once those below it are there

set_middle : (xs ys : List Laid) (x y : Laid) → slice_set (xs ++ x ∷ ys) (length xs) y ≡ xs ++ y ∷ ys
set_middle [] ys x y = refl
set_middle (z ∷ xs) ys x y = ap (λ r. z ∷ r) (set_middle xs ys x y)

own_row : (old all : List Laid) (first own : Laid) (more : List Laid) → all ≡ (old ++ first ∷ []) ++ more → slice_set all (length old) own ≡ old ++ own ∷ more
own_row old all first own more h =
    ap (λ (r : List Laid). slice_set r (length old) own) (h ∙ append_assoc old (first ∷ []) more) ∙ set_middle old more first own

-- ---- one item more

rows_after : (old new : List Laid) (b : ℕ) (d : Data) → new ≡ old ++ rows_at b d → length new ≡ length old + length (places d)
rows_after old new b d h = ap length h ∙ length-append old (rows_at b d) ∙ ap (λ n. length old + n) (length_rows b d)

pub item_row : (old new : List Laid) (d : Data) (ds : Items) (whole : List Laid) → new ≡ old ++ rows_at (length old) d
    → old ++ item_rows (length old) (item d ds) ≡ whole → new ++ item_rows (length new) ds ≡ whole
item_row old new d ds whole h w =
    ap₂ (λ r n. r ++ item_rows n ds) h (rows_after old new (length old) d h) ∙ append_assoc old (rows_at (length old) d) _ ∙ w

-- ---- one member more

pub member_row : (old mid new : List Laid) (k : Text) (d : Data) (ms : Members) (whole : List Laid) → mid ≡ old ++ laid (length old) (own_name k) ∷ []
    → new ≡ mid ++ rows_at (length mid) d → old ++ member_rows (length old) (member k d ms) ≡ whole
    → new ++ member_rows (length new) ms ≡ whole
member_row old mid new k d ms whole m h w =
    let one : length mid ≡ length old + 1 = ap length m ∙ length-append old (laid (length old) (own_name k) ∷ []) in
    let far : length new ≡ length old + 1 + length (places d) = rows_after mid new (length mid) d h ∙ ap (λ n. n + length (places d)) one in
    ap₂ (λ r n. r ++ member_rows n ms) h far
    ∙ append_assoc mid (rows_at (length mid) d) _
    ∙ ap₂ (λ r n. r ++ (rows_at n d ++ member_rows (length old + 1 + length (places d)) ms)) m one
    ∙ append_assoc old (laid (length old) (own_name k) ∷ []) _ ∙ w

-- ---- the names of an object ascend

pub other_names : (e : Entry) (es : List Entry) → AllByRecursion (λ y. string_cmp e.0 y ≡ Less) (keys_of es) → ComesFirst (string_bytes e.0) (members_view es)
other_names e [] h = tt
other_names e (f ∷ es) h = (h.0, other_names e es h.1)

pub names_step : (e : Entry) (es : List Entry) → IsStrictlySortedBy string_cmp (keys_of (e ∷ es)) → ComesFirst (string_bytes e.0) (members_view es) × IsStrictlySortedBy string_cmp (keys_of es)
unfolding IsStrictlySortedBy
names_step e es h = (other_names e es h.0, h.1)

-- ---- a container is done

pub container_done : (old mid all new : List Laid) (first : Laid) (n size : ℕ) (ks : LaidBelow) (is : ℕ → LaidBelow) (rows : ℕ → List Laid) → mid ≡ old ++ first ∷ [] → n ≡ length old
    → all ≡ mid ++ rows (length mid) → ks ≡ is (length mid) → length (rows (length mid)) ≡ size → new ≡ slice_set all n (laid (length all - 1) ks)
    → new ≡ old ++ laid (length old + size) (is (length old + 1)) ∷ rows (length old + 1)
container_done old mid all new first n size ks is rows m place h k s e =
    let one : length mid ≡ length old + 1 = ap length m ∙ length-append old (first ∷ []) in
    let count : length all ≡ length mid + length (rows (length mid)) = ap length h ∙ length-append mid (rows (length mid)) in
    let end : length all - 1 ≡ length old + size = omega (arith, count, s, one) in
    e ∙ ap₂ (λ (i : ℕ) (r : Laid). slice_set all i r) place (ap₂ laid end k)
    ∙ own_row old all first (laid (length old + size) (is (length mid))) (rows (length mid)) (h ∙ ap (λ (r : List Laid). r ++ rows (length mid)) m)
    ∙ ap (λ (l : ℕ). old ++ laid (length old + size) (is l) ∷ rows l) one

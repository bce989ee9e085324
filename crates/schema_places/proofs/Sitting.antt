-- Rows that stand among others from a number on: the names that they keep, and the numbers found by walking from one place to the next.
use Rattle.std.proofs.Common.{◌≡◌, ℕ, suc, ◌+◌, ◌-◌, ◌<◌, ◌≤◌, List, [], ◌∷◌, ◌++◌, length, refl, sym, ◌∙◌, ap, ap₂, subst, arith, length-append}
use Rattle.std.proofs.lemmas.List.{get_or_append_left, get_or-append_right}
use Rattle.serde_json.specs.Data.{Data, Items, Members, array, boolean, item, member, no_items, no_members, null, number, object, string}
use Rattle.theory_definitions.specs.Instance.{Text, places}
use Rattle.schema_places.specs.Rows.{Laid, NameNumbers, Walks, item_numbers, item_rows, laid, last_in, member_rows, name_in, name_numbers, name_of, named_by, nothing, numbers_from, own_name, row_in, rows_at}
use Rattle.schema_places.proofs.Laying.{length_rows}

-- rows stand among others from a number on
pub record Sits (all : List Laid) (b : ℕ) (rows : List Laid) : Type 0 where
  pub fits : b + length rows ≤ length all
  pub same : (j : ℕ) → j < length rows → row_in all (b + j) ≡ row_in rows j

abbrev no_row : Laid
no_row = laid 0 nothing

pub sits_self : (rows : List Laid) → Sits rows 0 rows
sits_self rows = record {
  fits = omega arith;
  same = λ j l. let e : 0 + j ≡ j = omega arith in ap (λ (i : ℕ). row_in rows i) e;
}

pub sits_at : (pre rows : List Laid) → Sits (pre ++ rows) (length pre) rows
sits_at pre rows = record {
  fits = omega (arith, length-append pre rows);
  same = λ j l.
      let e : length pre + j - length pre ≡ j = omega arith in
      get_or-append_right pre rows (length pre) (length pre + j) no_row refl (omega arith) ∙ ap (λ (i : ℕ). row_in rows i) e;
}

pub sits_left : (all : List Laid) (b : ℕ) (xs ys : List Laid) → Sits all b (xs ++ ys) → Sits all b xs
sits_left all b xs ys s =
    let size = length-append xs ys in record {
      fits = omega (arith, size, s.fits);
      same = λ j l. s.same j (omega (arith, size)) ∙ get_or_append_left xs ys no_row j l;
    }

pub sits_right : (all : List Laid) (b c : ℕ) (xs ys : List Laid) → c ≡ b + length xs → Sits all b (xs ++ ys) → Sits all c ys
sits_right all b c xs ys e s =
    let size = length-append xs ys in record {
      fits = omega (arith, size, s.fits, e);
      same = λ j l.
          let place : c + j ≡ b + (length xs + j) = omega (arith, e) in
          let back : length xs + j - length xs ≡ j = omega arith in
          ap (λ (i : ℕ). row_in all i) place ∙ s.same (length xs + j) (omega (arith, size))
          ∙ get_or-append_right xs ys (length xs) (length xs + j) no_row refl (omega arith) ∙ ap (λ (i : ℕ). row_in ys i) back;
    }

pub sits_first : (all : List Laid) (b : ℕ) (x : Laid) (xs : List Laid) → Sits all b (x ∷ xs) → row_in all b ≡ x
sits_first all b x xs s = let e : b ≡ b + 0 = omega arith in ap (λ (i : ℕ). row_in all i) e ∙ s.same 0 (omega arith)

pub sits_rest : (all : List Laid) (b : ℕ) (x : Laid) (xs : List Laid) → Sits all b (x ∷ xs) → Sits all (b + 1) xs
sits_rest all b x xs s = record {
  fits = omega (arith, s.fits);
  same = λ j l. let e : b + 1 + j ≡ b + suc j = omega arith in ap (λ (i : ℕ). row_in all i) e ∙ s.same (suc j) (omega arith);
}

-- ---- names

-- the names of an object with their numbers and those of its members, from a number on
abbrev pub member_numbers : ℕ → Members → List NameNumbers
member_numbers b no_members = []
member_numbers b (member k d ms) = (k, b, b + 1) ∷ member_numbers (b + 1 + length (places d)) ms

-- what follows the first member
pub member_rest : (all : List Laid) (b : ℕ) (k : Text) (d : Data) (ms : Members) → Sits all b (member_rows b (member k d ms)) → Sits all (b + 1 + length (places d)) (member_rows (b + 1 + length (places d)) ms)
member_rest all b k d ms s =
    sits_right all (b + 1) (b + 1 + length (places d)) (rows_at (b + 1) d) (member_rows (b + 1 + length (places d)) ms)
    (ap (λ n. b + 1 + n) (sym (length_rows (b + 1) d))) (sits_rest all b (laid b (own_name k)) _ s)

pub item_rest : (all : List Laid) (b : ℕ) (d : Data) (ds : Items) → Sits all b (item_rows b (item d ds)) → Sits all (b + length (places d)) (item_rows (b + length (places d)) ds)
item_rest all b d ds s = sits_right all b (b + length (places d)) (rows_at b d) (item_rows (b + length (places d)) ds) (ap (λ n. b + n) (sym (length_rows b d))) s

pub names_told : (all : List Laid) (b : ℕ) (ms : Members) → Sits all b (member_rows b ms) → named_by (name_in all) (name_numbers b ms) ≡ member_numbers b ms
names_told all b no_members s = refl
names_told all b (member k d ms) s =
    ap₂ (λ (t : Text) (r : List NameNumbers). (t, b, b + 1) ∷ r) (ap (λ (x : Laid). name_of x.below) (sits_first all b (laid b (own_name k)) _ s))
    (names_told all (b + 1 + length (places d)) ms (member_rest all b k d ms s))

-- ---- walking

-- a value's own row says where the next one begins
own_last : (b : ℕ) (d : Data) → (0 < length (places d)) × (last_in (rows_at b d) 0 + 1 ≡ b + length (places d))
own_last b null = (omega arith, omega arith)
own_last b (boolean x) = (omega arith, omega arith)
own_last b (number n) = (omega arith, omega arith)
own_last b (string t) = (omega arith, omega arith)
own_last b (array ds) = (omega arith, omega arith)
own_last b (object ms) = (omega arith, omega arith)

next_after : (all : List Laid) (b : ℕ) (d : Data) → Sits all b (rows_at b d) → last_in all (b + 0) + 1 ≡ b + length (places d)
next_after all b d s =
    let own = own_last b d in
    ap (λ (x : Laid). x.last + 1) (s.same 0 (omega (arith, own.0, length_rows b d))) ∙ own.1

abbrev pub count_items : Items → ℕ
count_items no_items = 0
count_items (item d ds) = suc (count_items ds)

abbrev pub count_members : Members → ℕ
count_members no_members = 0
count_members (member k d ms) = suc (count_members ms)

pub items_walk : (all : List Laid) (b : ℕ) (ds : Items) → Sits all b (item_rows b ds) → Walks (last_in all) (length all) 0 b (count_items ds) × (numbers_from (last_in all) 0 b (count_items ds) ≡ item_numbers b ds)
items_walk all b no_items s = (tt, refl)
items_walk all b (item d ds) s =
    let here = sits_left all b (rows_at b d) (item_rows (b + length (places d)) ds) s in
    let next = next_after all b d here in
    let own = own_last b d in
    let rest = items_walk all (b + length (places d)) ds (item_rest all b d ds s) in
    let fits = here.fits in
    let size = length_rows b d in (
      (
        omega (arith, fits, size, own.0),
        omega (arith, fits, size, next),
        subst (λ (n : ℕ). Walks (last_in all) (length all) 0 n (count_items ds)) (sym next) rest.0,
      ),
      ap (λ (r : List ℕ). b ∷ r) (ap (λ (n : ℕ). numbers_from (last_in all) 0 n (count_items ds)) next ∙ rest.1),
    )

pub members_walk : (all : List Laid) (b : ℕ) (ms : Members) → Sits all b (member_rows b ms) → Walks (last_in all) (length all) 1 b (count_members ms) × (numbers_from (last_in all) 1 b (count_members ms) ≡ name_numbers b ms)
members_walk all b no_members s = (tt, refl)
members_walk all b (member k d ms) s =
    let c = b + 1 + length (places d) in
    let here = sits_left all (b + 1) (rows_at (b + 1) d) (member_rows c ms) (sits_rest all b (laid b (own_name k)) _ s) in
    let at : b + 1 ≡ b + 1 + 0 = omega arith in
    let next : last_in all (b + 1) + 1 ≡ c = ap (λ (n : ℕ). last_in all n + 1) at ∙ next_after all (b + 1) d here in
    let own = own_last (b + 1) d in
    let rest = members_walk all c ms (member_rest all b k d ms s) in
    let fits = here.fits in
    let size = length_rows (b + 1) d in (
      (
        omega (arith, fits, size, own.0),
        omega (arith, fits, size, next),
        subst (λ (n : ℕ). Walks (last_in all) (length all) 1 n (count_members ms)) (sym next) rest.0,
      ),
      ap (λ (r : List ℕ). b ∷ r) (ap (λ (n : ℕ). numbers_from (last_in all) 1 n (count_members ms)) next ∙ rest.1),
    )

-- ---- a container whose parts are laid out

pub items_ready : (mid all : List Laid) (ds : Items) (n c : ℕ) → all ≡ mid ++ item_rows (length mid) ds → n ≡ length mid → c ≡ count_items ds
    → Walks (last_in all) (length all) 0 n c × (numbers_from (last_in all) 0 n c ≡ item_numbers (length mid) ds)
items_ready mid all ds n c e m k =
    let sits = subst (λ (r : List Laid). Sits r (length mid) (item_rows (length mid) ds)) (sym e) (sits_at mid (item_rows (length mid) ds)) in
    let walk = items_walk all (length mid) ds sits in (
      subst (λ (i : ℕ). Walks (last_in all) (length all) 0 i c) (sym m) (subst (λ (j : ℕ). Walks (last_in all) (length all) 0 (length mid) j) (sym k) walk.0),
      ap₂ (λ (i j : ℕ). numbers_from (last_in all) 0 i j) m k ∙ walk.1,
    )

pub members_ready : (mid all : List Laid) (ms : Members) (n c : ℕ) → all ≡ mid ++ member_rows (length mid) ms → n ≡ length mid → c ≡ count_members ms
    → Walks (last_in all) (length all) 1 n c × (numbers_from (last_in all) 1 n c ≡ name_numbers (length mid) ms)
members_ready mid all ms n c e m k =
    let sits = subst (λ (r : List Laid). Sits r (length mid) (member_rows (length mid) ms)) (sym e) (sits_at mid (member_rows (length mid) ms)) in
    let walk = members_walk all (length mid) ms sits in (
      subst (λ (i : ℕ). Walks (last_in all) (length all) 1 i c) (sym m) (subst (λ (j : ℕ). Walks (last_in all) (length all) 1 (length mid) j) (sym k) walk.0),
      ap₂ (λ (i j : ℕ). numbers_from (last_in all) 1 i j) m k ∙ walk.1,
    )

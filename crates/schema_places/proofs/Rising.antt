-- In each row the names ascend.
use Rattle.std.proofs.Common.{[], ◌∷◌, ℕ, zero, suc, ◌+◌, ◌-◌, ◌<◌, ◌≤◌, List, ◌++◌, length, get_or, refl, sym, subst, ⊎_elim}
use Rattle.std.proofs.lemmas.Bool.{cases_lt}
use Rattle.std.proofs.lemmas.List.{get_or_append_left, get_or-append_right}
use Rattle.serde_json.specs.Data.{Data, Items, Members, array, boolean, item, member, no_items, no_members, null, number, object, string}
use Rattle.theory_definitions.specs.Instance.{Text, places}
use Rattle.schema_places.specs.Rows.{ComesFirst, IsFirst, Laid, NamesAscend, NamesAscendInItems, NamesAscendInMembers, Rising, RisesBelow, item_rows, items_below, laid, item_numbers, member_rows, members_below, name_in, name_numbers, named_by, own_name, rows_at}
use Rattle.schema_places.proofs.Numbers.{no_row}
use Rattle.schema_places.proofs.Sitting.{Sits, item_rest, member_numbers, member_rest, names_told, sits_left, sits_rest}

first_of_members : (k : Text) (b : ℕ) (ms : Members) → ComesFirst k ms → IsFirst k (member_numbers b ms)
first_of_members k b no_members h = tt
first_of_members k b (member l d ms) h = (h.0, first_of_members k (b + 1 + length (places d)) ms h.1)

members_rise : (b : ℕ) (ms : Members) → NamesAscendInMembers ms → Rising (member_numbers b ms)
members_rise b no_members h = tt
members_rise b (member k d ms) h = (first_of_members k (b + 1 + length (places d)) ms h.0, members_rise (b + 1 + length (places d)) ms h.2)

abbrev Rises : List Laid → Laid → Type 0
Rises all r = RisesBelow all r.below

items_rise : (all : List Laid) (bs : List ℕ) → RisesBelow all (items_below bs)
items_rise all [] = tt
items_rise all (b ∷ bs) = tt

names_rise : (all : List Laid) (bs : List ℕ) → Rising (named_by (name_in all) bs) → RisesBelow all (members_below bs)
names_rise all [] h = tt
names_rise all (b ∷ bs) h = h

either_part : (all xs ys : List Laid) (i : ℕ) → ((j : ℕ) → Rises all (get_or xs j no_row)) → ((j : ℕ) → Rises all (get_or ys j no_row)) → Rises all (get_or (xs ++ ys) i no_row)
either_part all xs ys i f g =
    ⊎_elim
    (λ (l : i < length xs). subst (Rises all) (sym (get_or_append_left xs ys no_row i l)) (f i))
    (λ (l : length xs ≤ i). subst (Rises all) (sym (get_or-append_right xs ys (length xs) i no_row refl l)) (g (i - length xs)))
    (cases_lt i (length xs))

mutual
  pub rows_rise : (all : List Laid) (b : ℕ) (d : Data) (i : ℕ) → Sits all b (rows_at b d) → NamesAscend d → Rises all (get_or (rows_at b d) i no_row)
  rows_rise all b null zero s a = tt
  rows_rise all b null (suc i) s a = tt
  rows_rise all b (boolean x) zero s a = tt
  rows_rise all b (boolean x) (suc i) s a = tt
  rows_rise all b (number n) zero s a = tt
  rows_rise all b (number n) (suc i) s a = tt
  rows_rise all b (string t) zero s a = tt
  rows_rise all b (string t) (suc i) s a = tt
  rows_rise all b (array ds) zero s a = items_rise all (item_numbers (b + 1) ds)
  rows_rise all b (array ds) (suc i) s a = item_rows_rise all (b + 1) ds i (sits_rest all b _ (item_rows (b + 1) ds) s) a
  rows_rise all b (object ms) zero s a =
      names_rise all (name_numbers (b + 1) ms) (subst Rising (sym (names_told all (b + 1) ms (sits_rest all b _ (member_rows (b + 1) ms) s))) (members_rise (b + 1) ms a))
  rows_rise all b (object ms) (suc i) s a = member_rows_rise all (b + 1) ms i (sits_rest all b _ (member_rows (b + 1) ms) s) a

  item_rows_rise : (all : List Laid) (b : ℕ) (ds : Items) (i : ℕ) → Sits all b (item_rows b ds) → NamesAscendInItems ds → Rises all (get_or (item_rows b ds) i no_row)
  item_rows_rise all b no_items i s a = tt
  item_rows_rise all b (item d ds) i s a =
      either_part all (rows_at b d) (item_rows (b + length (places d)) ds) i (λ j. rows_rise all b d j (sits_left all b (rows_at b d) _ s) a.0)
      (λ j. item_rows_rise all (b + length (places d)) ds j (item_rest all b d ds s) a.1)

  member_rows_rise : (all : List Laid) (b : ℕ) (ms : Members) (i : ℕ) → Sits all b (member_rows b ms) → NamesAscendInMembers ms → Rises all (get_or (member_rows b ms) i no_row)
  member_rows_rise all b no_members i s a = tt
  member_rows_rise all b (member k d ms) zero s a = tt
  member_rows_rise all b (member k d ms) (suc i) s a =
      either_part all (rows_at (b + 1) d) (member_rows (b + 1 + length (places d)) ms) i
      (λ j. rows_rise all (b + 1) d j (sits_left all (b + 1) (rows_at (b + 1) d) _ (sits_rest all b (laid b (own_name k)) _ s)) a.1)
      (λ j. member_rows_rise all (b + 1 + length (places d)) ms j (member_rest all b k d ms s) a.2)

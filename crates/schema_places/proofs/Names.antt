-- Names that ascend are apart.
use Rattle.std.proofs.Common.{◌≡◌, ◌∙◌, Bool, false, ap, refl, sym, bytes_eq, nat_cmp, is_eq, Less}
use Rattle.std.specs.Prelude.{◌||◌}
use Rattle.std.specs.Cmp.Lexicographic.{slice_cmp}
use Rattle.std.proofs.lemmas.Map.Text.{is_eq-slice_cmp}
use Rattle.serde_json.specs.Data.{Data, Items, Members, array, boolean, item, member, no_items, no_members, null, number, object, string}
use Rattle.theory_definitions.specs.Instance.{Text}
use Rattle.schema_places.specs.Rows.{ComesFirst, NamesAscend, NamesAscendInItems, NamesAscendInMembers}

-- an object has a name
abbrev pub has_name : Text → Members → Bool
has_name k no_members = false
has_name k (member l d ms) = bytes_eq k l || has_name k ms

-- no object has a name twice
abbrev mutual
  pub NamesApart : Data → Type 0
  NamesApart null = Unit {0}
  NamesApart (boolean b) = Unit {0}
  NamesApart (number n) = Unit {0}
  NamesApart (string s) = Unit {0}
  NamesApart (array ds) = NamesApartInItems ds
  NamesApart (object ms) = NamesApartInMembers ms

  pub NamesApartInItems : Items → Type 0
  NamesApartInItems no_items = Unit {0}
  NamesApartInItems (item d ds) = NamesApart d × NamesApartInItems ds

  pub NamesApartInMembers : Members → Type 0
  NamesApartInMembers no_members = Unit {0}
  NamesApartInMembers (member k d ms) = (has_name k ms ≡ false) × NamesApart d × NamesApartInMembers ms

pub less_differs : (k l : Text) → slice_cmp nat_cmp k l ≡ Less → bytes_eq k l ≡ false
less_differs k l h = sym (is_eq-slice_cmp k l) ∙ ap is_eq h

first_is_new : (k : Text) (ms : Members) → ComesFirst k ms → has_name k ms ≡ false
first_is_new k no_members h = refl
first_is_new k (member l d ms) h = ap (λ b. b || has_name k ms) (less_differs k l h.0) ∙ first_is_new k ms h.1

mutual
  pub names_apart : (d : Data) → NamesAscend d → NamesApart d
  names_apart null h = tt
  names_apart (boolean b) h = tt
  names_apart (number n) h = tt
  names_apart (string s) h = tt
  names_apart (array ds) h = items_apart ds h
  names_apart (object ms) h = members_apart ms h

  items_apart : (ds : Items) → NamesAscendInItems ds → NamesApartInItems ds
  items_apart no_items h = tt
  items_apart (item d ds) h = (names_apart d h.0, items_apart ds h.1)

  members_apart : (ms : Members) → NamesAscendInMembers ms → NamesApartInMembers ms
  members_apart no_members h = tt
  members_apart (member k d ms) h = (first_is_new k ms h.0, names_apart d h.1, members_apart ms h.2)

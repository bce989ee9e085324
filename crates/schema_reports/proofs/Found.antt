-- Where a step leads, by the lookups of `serde_json`.
use Rattle.std.proofs.Common.{ℕ, zero, suc, ◌≡◌, ◌∙◌, true, cond, List, Option, Some, None, option_map, ap, sym, refl, Ordering, Less, Equal, Greater}
use Rattle.std.specs.Ordering.{nat_cmp, is_eq, match_ordering}
use Rattle.std.specs.Cmp.Lexicographic.{slice_cmp}
use Rattle.std.specs.Str.{bytes_eq}
use Rattle.std.specs.Option.{option_and_then}
use Rattle.std.proofs.lemmas.Slice.Eq.{bytes_eq-Decides}
use Rattle.std.proofs.lemmas.Map.Text.{is_eq-slice_cmp}
use Rattle.serde_json.specs.Data.{Data, null, boolean, number, string, array, object, Items, no_items, item, Members, no_members, member}
use Rattle.serde_json.specs.Find.{get, get_member, get_item, as_object}
use Rattle.theory_definitions.specs.Instance.{Text, a_value, a_name, after_step, item_of, member_of, to_member, to_name}

by_order : (o : Ordering) (d : Data) (a b : Option Data) → a ≡ b → cond (is_eq o) (Some d) a ≡ match_ordering o b (Some d) b
by_order Less d a b e = e
by_order Equal d a b e = refl
by_order Greater d a b e = e

-- the first member of that name is the one that is found
pub member_of-get_member : (k : Text) (ms : Members) → member_of k ms ≡ get_member k ms
member_of-get_member k no_members = refl
member_of-get_member k (member l d ms) =
    ap (λ b. cond b (Some d) (member_of k ms)) (sym (is_eq-slice_cmp k l)) ∙ by_order (slice_cmp nat_cmp k l) d _ _ (member_of-get_member k ms)

pub item_of-get_item : (n : ℕ) (ds : Items) → item_of n ds ≡ get_item n ds
item_of-get_item n no_items = refl
item_of-get_item zero (item d ds) = refl
item_of-get_item (suc n) (item d ds) = item_of-get_item n ds

mapped : {A B : Type 0} (f : A → B) (o : Option A) → option_and_then (λ d. Some (f d)) o ≡ option_map f o
mapped f None = refl
mapped f (Some d) = refl

pub after_member : (k : Text) (d : Data) → after_step (to_member k) (a_value d) ≡ option_map a_value (get k d)
after_member k null = refl
after_member k (boolean b) = refl
after_member k (number n) = refl
after_member k (string s) = refl
after_member k (array ds) = refl
after_member k (object ms) = mapped a_value (member_of k ms) ∙ ap (option_map a_value) (member_of-get_member k ms)

pub after_name : (k : Text) (d : Data) → after_step (to_name k) (a_value d) ≡ option_map (λ e. a_name k) (get k d)
after_name k null = refl
after_name k (boolean b) = refl
after_name k (number n) = refl
after_name k (string s) = refl
after_name k (array ds) = refl
after_name k (object ms) = mapped (λ e. a_name k) (member_of k ms) ∙ ap (option_map (λ e. a_name k)) (member_of-get_member k ms)

-- ---- an object's members

pub get-of-object : (k : Text) (d : Data) (ms : Members) → Some ms ≡ as_object d → get k d ≡ get_member k ms
get-of-object k null ms h = cc
get-of-object k (boolean b) ms h = cc
get-of-object k (number n) ms h = cc
get-of-object k (string s) ms h = cc
get-of-object k (array ds) ms h = cc
get-of-object k (object es) ms h = let e : ms ≡ es = cc in ap (get_member k) (sym e)

pub same-from-equal : (xs ys : List ℕ) → slice_cmp nat_cmp xs ys ≡ Equal → xs ≡ ys
same-from-equal xs ys e =
    let b : bytes_eq xs ys ≡ true = sym (is_eq-slice_cmp xs ys) ∙ ap is_eq e in
    (bytes_eq-Decides xs ys).0 b

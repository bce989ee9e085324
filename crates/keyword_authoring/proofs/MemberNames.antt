-- The member with a name, as `serde_json` finds it.
use Rattle.std.proofs.Common.{false, ◌≡◌, ◌∙◌, Option, Some, None, is_some, option_and_then, option_map, ap, sym, refl, cond}
use Rattle.std.specs.Ordering.{nat_cmp, is_eq, match_ordering}
use Rattle.std.specs.declared.cmp.Ordering.{Ordering}
use Rattle.std.specs.declared.cmp.Ordering.TheVariants.{Less, Equal, Greater}
use Rattle.std.specs.Cmp.Lexicographic.{slice_cmp}
use Rattle.std.proofs.lemmas.Map.Text.{is_eq-slice_cmp}
use Rattle.serde_json.specs.Data.{Data, null, boolean, number, string, array, object, Members, no_members, member}
use Rattle.serde_json.specs.Find.{as_object, get_member}
use Rattle.theory_definitions.specs.Instance.{Text, member_of, after_step, to_member, a_value}

chosen : (o : Ordering) (d : Data) (rest : Option Data) → cond (is_eq o) (Some d) rest ≡ match_ordering o rest (Some d) rest
chosen Less d rest = refl
chosen Equal d rest = refl
chosen Greater d rest = refl

pub member_of-get : (k : Text) (ms : Members) → member_of k ms ≡ get_member k ms
member_of-get k no_members = refl
member_of-get k (member l d ms) = ap (λ b. cond b (Some d) (member_of k ms)) (sym (is_eq-slice_cmp k l))
    ∙ (ap (λ rest. cond (is_eq (slice_cmp nat_cmp k l)) (Some d) rest) (member_of-get k ms) ∙ chosen (slice_cmp nat_cmp k l) d (get_member k ms))

leads : (o : Option Data) → is_some (option_and_then (λ d. Some (a_value d)) o) ≡ is_some o
leads None = refl
leads (Some d) = refl

-- a member of an object
pub has_member-object : (k : Text) (d : Data) (ms : Members) → as_object d ≡ Some ms → is_some (after_step (to_member k) (a_value d)) ≡ is_some (get_member k ms)
has_member-object k null ms h = absurd (let q : ⊥ = cc in q)
has_member-object k (boolean b) ms h = absurd (let q : ⊥ = cc in q)
has_member-object k (number n) ms h = absurd (let q : ⊥ = cc in q)
has_member-object k (string s) ms h = absurd (let q : ⊥ = cc in q)
has_member-object k (array ds) ms h = absurd (let q : ⊥ = cc in q)
has_member-object k (object es) ms h = leads (member_of k es) ∙ (ap is_some (member_of-get k es) ∙ ap (λ o. is_some (option_and_then (get_member k) o)) h)

-- no other value has members
pub has_member-none : (k : Text) (d : Data) → as_object d ≡ None → is_some (after_step (to_member k) (a_value d)) ≡ false
has_member-none k null h = refl
has_member-none k (boolean b) h = refl
has_member-none k (number n) h = refl
has_member-none k (string s) h = refl
has_member-none k (array ds) h = refl
has_member-none k (object ms) h = absurd (let q : ⊥ = cc in q)

pub is_some-map : {A B : Type 0} (f : A → B) (o : Option A) → is_some (option_map f o) ≡ is_some o
is_some-map f None = refl
is_some-map f (Some a) = refl

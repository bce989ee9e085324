-- If no draft is named inside a value, none is named inside the values in it.
use Rattle.std.proofs.Common.{◌≡◌, ◌||◌, ◌∷◌, Bool, None, Option, Some, [], refl, subst, true, false, true≢false, zero, suc, ℕ}
use Rattle.std.specs.Prelude.{bytes_eq, codes, if◌then◌else◌, is_some, option_and_then}
use Rattle.std.proofs.lemmas.Option.{none-some, option_and_then_some, same_Some}
use Rattle.serde_json.specs.Data.{Data, Items, Members, array, boolean, item, member, no_items, no_members, null, number, object, string}
use Rattle.theory_definitions.specs.Instance.{Place, Step, Subject, Text, a_name, a_value, after_step, item_of, member_of, subject_at, subject_from, to_item, to_member, to_name}
use Rattle.standard_subschemas.specs.SubschemaRules.{text_member}
use Rattle.standard_subschemas.specs.NamedDrafts.{items_name_draft, members_name_draft, names_draft_inside}

neither : (a b : Bool) → (a || b) ≡ false → (a ≡ false) × (b ≡ false)
neither true b h = absurd (true≢false h)
neither false b h = (refl, h)

-- the value names no draft, and none is named inside it
abbrev pub IsUnnamed : Data → Type 0
IsUnnamed v = (is_some (text_member (codes "$schema") v) ≡ false) × (names_draft_inside v ≡ false)

abbrev IsUnnamedThere : Subject → Type 0
IsUnnamedThere (a_value v) = IsUnnamed v
IsUnnamedThere (a_name k) = Unit {0}

item_unnamed : (ds : Items) → items_name_draft ds ≡ false → (n : ℕ) (s : Subject) → option_and_then (λ d. Some (a_value d)) (item_of n ds) ≡ Some s → IsUnnamedThere s
item_unnamed no_items h n s is = absurd (none-some s is)
item_unnamed (item d ds) h zero s is = subst IsUnnamedThere (same_Some (a_value d) s is) (neither _ _ (neither _ _ h).0)
item_unnamed (item d ds) h (suc n) s is = item_unnamed ds (neither _ _ h).1 n s is

member_unnamed : (ms : Members) → members_name_draft ms ≡ false → (k : Text) (s : Subject) → option_and_then (λ d. Some (a_value d)) (member_of k ms) ≡ Some s → IsUnnamedThere s
member_unnamed no_members h k s is = absurd (none-some s is)
member_unnamed (member l d ms) h k s is =
    let go : (b : Bool) → option_and_then (λ (d : Data). Some (a_value d)) (if b then Some d else member_of k ms) ≡ Some s → IsUnnamedThere s = elim [
      | true ↦ λ here. subst IsUnnamedThere (same_Some (a_value d) s here) (neither _ _ (neither _ _ h).0)
      | false ↦ λ later. member_unnamed ms (neither _ _ h).1 k s later
    ] in
    go (bytes_eq k l) is

name_unnamed : (o : Option Data) (k : Text) (s : Subject) → option_and_then (λ (d : Data). Some (a_name k)) o ≡ Some s → IsUnnamedThere s
name_unnamed None k s is = absurd (none-some s is)
name_unnamed (Some d) k s is = subst IsUnnamedThere (same_Some (a_name k) s is) tt

step_unnamed : (v : Data) → names_draft_inside v ≡ false → (step : Step) (s : Subject) → after_step step (a_value v) ≡ Some s → IsUnnamedThere s
step_unnamed (array ds) h (to_item n) s is = item_unnamed ds h n s is
step_unnamed (object ms) h (to_member k) s is = member_unnamed ms h k s is
step_unnamed (object ms) h (to_name k) s is = name_unnamed (member_of k ms) k s is
step_unnamed (array ds) h (to_member k) s is = absurd (none-some s is)
step_unnamed (array ds) h (to_name k) s is = absurd (none-some s is)
step_unnamed (object ms) h (to_item n) s is = absurd (none-some s is)
step_unnamed null h (to_member k) s is = absurd (none-some s is)
step_unnamed null h (to_item n) s is = absurd (none-some s is)
step_unnamed null h (to_name k) s is = absurd (none-some s is)
step_unnamed (boolean b) h (to_member k) s is = absurd (none-some s is)
step_unnamed (boolean b) h (to_item n) s is = absurd (none-some s is)
step_unnamed (boolean b) h (to_name k) s is = absurd (none-some s is)
step_unnamed (number m) h (to_member k) s is = absurd (none-some s is)
step_unnamed (number m) h (to_item n) s is = absurd (none-some s is)
step_unnamed (number m) h (to_name k) s is = absurd (none-some s is)
step_unnamed (string t) h (to_member k) s is = absurd (none-some s is)
step_unnamed (string t) h (to_item n) s is = absurd (none-some s is)
step_unnamed (string t) h (to_name k) s is = absurd (none-some s is)

along : (path : Place) (s t : Subject) → IsUnnamedThere s → subject_from path s ≡ Some t → IsUnnamedThere t
along [] s t h is = subst IsUnnamedThere (same_Some s t is) h
along (step ∷ path) (a_name k) t h is = absurd (none-some t is)
along (step ∷ path) (a_value v) t h is = option_and_then_some (subject_from path) (after_step step (a_value v)) t is (λ s at rest. along path s t (step_unnamed v h.1 step s at) rest)

-- the values below a value inside which no draft is named
pub unnamed_below : (v : Data) → names_draft_inside v ≡ false → (step : Step) (path : Place) (inner : Data) → subject_at v (step ∷ path) ≡ Some (a_value inner) → IsUnnamed inner
unnamed_below v h step path inner is =
    option_and_then_some (subject_from path) (after_step step (a_value v)) (a_value inner) is (λ s at rest. along path s (a_value inner) (step_unnamed v h step s at) rest)

-- If a property holds of each keyword that a maker makes, and of each reference, it holds of each
-- part of a plan.
use Rattle.std.proofs.Common.{◌≡◌, ℕ, Bool, true, false, cond, List, [], ◌∷◌, ◌++◌, refl}
use Rattle.std.specs.Prelude.{Option, Some, None, nat_le, codes}
use Rattle.serde_json.specs.Data.{Data, null, boolean, number, string, array, object, Members, no_members, member}
use Rattle.theory_definitions.specs.Instance.{Text, member_of}
use Rattle.theory_definitions.specs.Drafts.{ref_stands_alone}
use Rattle.theory_definitions.specs.Parts.{Parts}
use Rattle.theory_definitions.specs.Making.{Made, a_keyword, nothing, refused, Builtin}
use Rattle.theory_definitions.specs.Plan.{Key, Part, Form, keyword, reference, Reference, to_ref, reference_named, Plan, always, never, these, plan_of, plan_alone, parts, part, builtin_part, part_made, reference_part, making, option_list, sorted, placed, is_self}

module _ {K : Type 0} (P : Form K → Type 0) where
  abbrev pub EachForm : List (Part K) → Type 0
  EachForm [] = Unit {0}
  EachForm (x ∷ xs) = P x.form × EachForm xs

  abbrev pub PlanForms : Plan K → Type 0
  PlanForms always = Unit {0}
  PlanForms never = Unit {0}
  PlanForms (these xs) = EachForm xs

module _ {S K R : Type 0} (w : Parts S K R) (k : Key S) (whole : Members) (P : Form K → Type 0)
    (refers : (kind : Reference) (text : Text) → P (reference kind text))
    (makes : (custom : Bool) (name : Text) (m : K) (absorbed : List Text) → (making w k whole custom name).ends ≡ a_keyword m absorbed → P (keyword m (making w k whole custom name).requests absorbed)) where
  abbrev OptionForm : Option (Part K) → Type 0
  OptionForm None = Unit {0}
  OptionForm (Some x) = P x.form

  placed_form : (x : Part K) (xs : List (Part K)) → P x.form → EachForm P xs → EachForm P (placed x xs)
  placed_form x [] h t = (h, tt)
  placed_form x (y ∷ ys) h t = go (nat_le x.priority y.priority) (placed_form x ys h t.1)
    where
      go : (b : Bool) → EachForm P (placed x ys) → EachForm P (cond b (x ∷ y ∷ ys) (y ∷ placed x ys))
      go true r = (h, t)
      go false r = (t.0, r)

  sorted_form : (xs : List (Part K)) → EachForm P xs → EachForm P (sorted xs)
  sorted_form [] t = tt
  sorted_form (x ∷ xs) t = placed_form x (sorted xs) t.0 (sorted_form xs t.1)

  joined_form : (o : Option (Part K)) (xs : List (Part K)) → OptionForm o → EachForm P xs → EachForm P (option_list o ++ xs)
  joined_form None xs h t = t
  joined_form (Some x) xs h t = (h, t)

  made_form : (custom : Bool) (name : Text) (n : ℕ) (leaf : Bool) → OptionForm (part_made w name n leaf (making w k whole custom name))
  made_form custom name n leaf = go (making w k whole custom name).ends (makes custom name)
    where
      go : (e : Made K) → ((m : K) (absorbed : List Text) → e ≡ a_keyword m absorbed → P (keyword m (making w k whole custom name).requests absorbed))
          → OptionForm (elim e [ a_keyword meaning absorbed ↦ Some (record { name = name; priority = n; is_leaf = leaf; form = keyword meaning (making w k whole custom name).requests absorbed }) | nothing ↦ None | refused told error ↦ None ])
      go (a_keyword meaning absorbed) f = f meaning absorbed refl
      go nothing f = tt
      go (refused told error) f = tt

  reference_form : (name : Text) (n : ℕ) (kind : Reference) (value : Data) → OptionForm (reference_part w k name n kind value)
  reference_form name n kind (string text) = go (is_self w k kind text)
    where
      go : (b : Bool) → OptionForm (cond b None (Some (record { name = name; priority = n; is_leaf = false; form = reference kind text })))
      go true = tt
      go false = refers kind text
  reference_form name n kind null = tt
  reference_form name n kind (boolean b) = tt
  reference_form name n kind (number b) = tt
  reference_form name n kind (array b) = tt
  reference_form name n kind (object b) = tt

  builtin_form : (name : Text) (value : Data) → OptionForm (builtin_part w k whole name value)
  builtin_form name value = go (w.table.builtin k.target.draft k.target.vocabularies name) (reference_named name)
    where
      go : (o : Option Builtin) (r : Option Reference) → OptionForm (elim o [ None ↦ None | Some b ↦ elim r [ Some kind ↦ reference_part w k name b.priority kind value | None ↦ part_made w name b.priority b.is_leaf (making w k whole false name) ] ])
      go None r = tt
      go (Some b) (Some kind) = reference_form name b.priority kind value
      go (Some b) None = made_form false name b.priority b.is_leaf

  part_form : (name : Text) (value : Data) → OptionForm (part w k whole name value)
  part_form name value = go (w.table.owns name)
    where
      go : (b : Bool) → OptionForm (elim b [ true ↦ part_made w name 80 false (making w k whole true name) | false ↦ builtin_part w k whole name value ])
      go true = made_form true name 80 false
      go false = builtin_form name value

  parts_form : (ms : Members) → EachForm P (parts w k whole ms)
  parts_form no_members = tt
  parts_form (member name value rest) = joined_form (part w k whole name value) (parts w k whole rest) (part_form name value) (parts_form rest)

  alone_form : (o : Option (Part K)) → OptionForm o → PlanForms P (plan_alone w o)
  alone_form None h = tt
  alone_form (Some x) h = (h, tt)

  pub plan_forms : PlanForms P (plan_of w k (object whole))
  plan_forms = go (cond (ref_stands_alone k.target.draft) (member_of (codes "$ref") whole) None)
    where
      go : (o : Option Data) → PlanForms P (elim o [ Some value ↦ plan_alone w (reference_part w k (codes "$ref") 70 to_ref value) | None ↦ these (sorted (parts w k whole whole)) ])
      go (Some value) = alone_form _ (reference_form (codes "$ref") 70 to_ref value)
      go None = sorted_form (parts w k whole whole) (parts_form whole)

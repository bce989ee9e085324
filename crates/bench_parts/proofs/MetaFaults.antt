-- The first fault of a document, by the items and members that are left.
use Rattle.std.proofs.Common.{◌≡◌, ◌∙◌, ◌+◌, ◌++◌, ◌∷◌, [], Bool, None, Option, Some, ap, false, sym, true, ℕ}
use Rattle.std.specs.Prelude.{option_map}
use Rattle.std.proofs.lemmas.Bool.{or_parts}
use Rattle.serde_json.specs.Data.{Data, Items, Members, item, member}
use Rattle.serde_json.specs.Written.{has_float, items_have_float, members_have_float}
use Rattle.theory_definitions.specs.Drafts.{Draft}
use Rattle.theory_definitions.specs.Instance.{Place, Text, to_item, to_member}
use Rattle.theory_definitions.specs.Reports.{Error}
use Rattle.schema_reports.specs.ReportViews.{error_of}
use Rattle.schema_reports.specs.declared.reports.ValidationError.{ValidationError}
use Rattle.bench_parts.specs.BenchMeta.{earlier, fault_in, fault_in_items, fault_in_members, member_fault}

-- an error is this one, with its text if there is no fraction
abbrev pub Tells : Option ValidationError → Bool → (Bool → Option Error) → Type 0
Tells o has_fraction fault = (texts : Bool) → (texts ≡ true → has_fraction ≡ false) → option_map (error_of texts) o ≡ fault texts

module _ (d : Draft) (place : Place) where
  abbrev pub in_value : Place → Data → Bool → Option Error
  in_value p v texts = fault_in texts d p v

  -- the first fault of the items is the first of those that are left
  abbrev pub ItemsLeft : Items → ℕ → Items → Type 0
  ItemsLeft all n left = (texts : Bool) → (texts ≡ true → items_have_float all ≡ false)
      → (texts ≡ true → items_have_float left ≡ false) × (fault_in_items texts d place 0 all ≡ fault_in_items texts d place n left)

  module _ (all : Items) (n : ℕ) (v : Data) (rest : Items) (p : Place) (o : Option ValidationError) (at : p ≡ place ++ to_item n ∷ []) (before : ItemsLeft all n (item v rest)) (tells : Tells o (has_float v) (in_value p v)) where
    item_fault : (texts : Bool) → (texts ≡ true → items_have_float all ≡ false) → option_map (error_of texts) o ≡ fault_in texts d (place ++ to_item n ∷ []) v
    item_fault texts whole = tells texts (λ t. (or_parts _ _ ((before texts whole).0 t)).0) ∙ ap (λ (q : Place). fault_in texts d q v) at

    pub next_item : o ≡ None → ItemsLeft all (n + 1) rest
    next_item none texts whole =
        let left = before texts whole in
        let here : None ≡ fault_in texts d (place ++ to_item n ∷ []) v = ap (option_map (error_of texts)) (sym none) ∙ item_fault texts whole in
        ((λ t. (or_parts _ _ (left.0 t)).1), left.1 ∙ ap (λ (x : Option Error). earlier x (fault_in_items texts d place (n + 1) rest)) (sym here))

    pub found_item : (e : ValidationError) → o ≡ Some e → Tells (Some e) (items_have_float all) (λ texts. fault_in_items texts d place 0 all)
    found_item e is texts whole =
        let left = before texts whole in
        let here : Some (error_of texts e) ≡ fault_in texts d (place ++ to_item n ∷ []) v = ap (option_map (error_of texts)) (sym is) ∙ item_fault texts whole in
        ap (λ (x : Option Error). earlier x (fault_in_items texts d place (n + 1) rest)) here ∙ sym left.1

  -- the first fault of the members is the first of those that are left
  abbrev pub MembersLeft : Members → Members → Type 0
  MembersLeft all left = (texts : Bool) → (texts ≡ true → members_have_float all ≡ false)
      → (texts ≡ true → members_have_float left ≡ false) × (fault_in_members texts d place all ≡ fault_in_members texts d place left)

  module _ (all : Members) (k : Text) (v : Data) (rest : Members) (p : Place) (o : Option ValidationError) (at : p ≡ place ++ to_member k ∷ []) (before : MembersLeft all (member k v rest))
      (tells : Tells o (has_float v) (λ texts. member_fault texts d p k v)) where
    abbrev later : Bool → Option Error
    later texts = earlier (fault_in texts d (place ++ to_member k ∷ []) v) (fault_in_members texts d place rest)

    own_fault : (texts : Bool) → (texts ≡ true → members_have_float all ≡ false) → option_map (error_of texts) o ≡ member_fault texts d (place ++ to_member k ∷ []) k v
    own_fault texts whole = tells texts (λ t. (or_parts _ _ ((before texts whole).0 t)).0) ∙ ap (λ (q : Place). member_fault texts d q k v) at

    pub found_member : (e : ValidationError) → o ≡ Some e → Tells (Some e) (members_have_float all) (λ texts. fault_in_members texts d place all)
    found_member e is texts whole =
        let left = before texts whole in
        let here : Some (error_of texts e) ≡ member_fault texts d (place ++ to_member k ∷ []) k v = ap (option_map (error_of texts)) (sym is) ∙ own_fault texts whole in
        ap (λ (x : Option Error). earlier x (later texts)) here ∙ sym left.1

    module _ (i : Option ValidationError) (none : o ≡ None) (inside : Tells i (has_float v) (in_value p v)) where
      -- the member itself has no fault
      past_own : (texts : Bool) → (texts ≡ true → members_have_float all ≡ false) → fault_in_members texts d place all ≡ later texts
      past_own texts whole =
          let here : None ≡ member_fault texts d (place ++ to_member k ∷ []) k v = ap (option_map (error_of texts)) (sym none) ∙ own_fault texts whole in
          (before texts whole).1 ∙ ap (λ (x : Option Error). earlier x (later texts)) (sym here)

      inside_fault : (texts : Bool) → (texts ≡ true → members_have_float all ≡ false) → option_map (error_of texts) i ≡ fault_in texts d (place ++ to_member k ∷ []) v
      inside_fault texts whole = inside texts (λ t. (or_parts _ _ ((before texts whole).0 t)).0) ∙ ap (λ (q : Place). fault_in texts d q v) at

      pub found_inside : (e : ValidationError) → i ≡ Some e → Tells (Some e) (members_have_float all) (λ texts. fault_in_members texts d place all)
      found_inside e is texts whole =
          let here : Some (error_of texts e) ≡ fault_in texts d (place ++ to_member k ∷ []) v = ap (option_map (error_of texts)) (sym is) ∙ inside_fault texts whole in
          ap (λ (x : Option Error). earlier x (fault_in_members texts d place rest)) here ∙ sym (past_own texts whole)

      pub next_member : i ≡ None → MembersLeft all rest
      next_member nothing texts whole =
          let here : None ≡ fault_in texts d (place ++ to_member k ∷ []) v = ap (option_map (error_of texts)) (sym nothing) ∙ inside_fault texts whole in
          ((λ t. (or_parts _ _ ((before texts whole).0 t)).1), past_own texts whole ∙ ap (λ (x : Option Error). earlier x (fault_in_members texts d place rest)) (sym here))

-- An object or a boolean at a path of a document is among the document's schemas; and the indices
-- in paths.
use Rattle.std.proofs.Common.{◌≡◌, ◌∙◌, ◌+◌, ◌++◌, ◌∷◌, [], ℕ, zero, suc, Bool, true, false, cond, List, inl, inr, ap, append-nil, append_assoc, arith, refl, subst, sym}
use Rattle.std.specs.Prelude.{None, Option, Some, bytes_eq, option_and_then}
use Rattle.std.proofs.lemmas.Slice.Eq.{bytes_eq-Decides}
use Rattle.serde_json.specs.Data.{Data, Items, Members, array, boolean, item, member, no_items, no_members, null, number, object, string}
use Rattle.theory_definitions.specs.Instance.{Place, Step, Text, a_name, a_value, item_of, member_of, subject_at, subject_from, to_item, to_member, to_name}
use Rattle.theory_meaning.specs.MapPointers.{is_schema}
use Rattle.theory_definitions.specs.Parts.{Parts}
use Rattle.schema_keys.specs.Compiling.{In}
use Rattle.schema_keys.proofs.Lists.{in_left, in_right}
use Rattle.schema_keys.specs.DocumentSchemas.{IndicesFit, schemas_in, schemas_in_items, schemas_in_members}

pub fit_below : (p : Place) (s : Step) → IndicesFit p → IndicesFit (s ∷ []) → IndicesFit (p ++ s ∷ [])
fit_below [] s h k = k
fit_below (to_member k ∷ p) s h here = fit_below p s h here
fit_below (to_item n ∷ p) s h here = (h.0, fit_below p s h.1 here)
fit_below (to_name k ∷ p) s h here = fit_below p s h here

-- below the name of a member there is nothing
pub no_value_named : (q : Place) (k : Text) (v : Data) → subject_from q (a_name k) ≡ Some (a_value v) → ⊥
no_value_named [] k v e = cc
no_value_named (s ∷ q) k v e = cc

under_name : (q : Place) (k : Text) (v : Data) (o : Option Data) → option_and_then (subject_from q) (option_and_then (λ (d : Data). Some (a_name k)) o) ≡ Some (a_value v) → ⊥
under_name q k v None e = cc
under_name q k v (Some d) e = no_value_named q k v e

here : (p : Place) (ps : List Place) → In (p ∷ ps) (p ++ [])
here p ps = inl (sym (append-nil p))

-- a step further
one_step : (p : Place) (s : Step) (q : Place) (ps : List Place) → In ps ((p ++ s ∷ []) ++ q) → In ps (p ++ s ∷ q)
one_step p s q ps i = subst (In ps) (append_assoc p (s ∷ []) q) i

module _ {S K R : Type 0} (w : Parts S K R) where
  mutual
    pub document_schema : (d v : Data) (p q : Place) → subject_at d q ≡ Some (a_value v) → is_schema w v ≡ true → In (schemas_in p d) (p ++ q)
    document_schema null v p [] e is = absurd (let same : null ≡ v = cc in let no : false ≡ true = ap (is_schema w) same ∙ is in cc)
    document_schema (boolean b) v p [] e is = here p []
    document_schema (number n) v p [] e is = absurd (let same : number n ≡ v = cc in let no : false ≡ true = ap (is_schema w) same ∙ is in cc)
    document_schema (string s) v p [] e is = absurd (let same : string s ≡ v = cc in let no : false ≡ true = ap (is_schema w) same ∙ is in cc)
    document_schema (array ds) v p [] e is = absurd (let same : array ds ≡ v = cc in let no : false ≡ true = ap (is_schema w) same ∙ is in cc)
    document_schema (object ms) v p [] e is = here p (schemas_in_members p ms)
    document_schema (array ds) v p (to_item n ∷ q) e is = subst (λ i. In (schemas_in_items p 0 ds) (p ++ to_item i ∷ q)) (let i : 0 + n ≡ n = omega arith in i) (item_schema ds v p 0 n q e is)
    document_schema (object ms) v p (to_member k ∷ q) e is = inr (member_schema ms v p k q e is)
    document_schema (object ms) v p (to_name k ∷ q) e is = absurd (under_name q k v (member_of k ms) e)
    document_schema null v p (to_member k ∷ q) e is = absurd (let no : ⊥ = cc in no)
    document_schema null v p (to_item n ∷ q) e is = absurd (let no : ⊥ = cc in no)
    document_schema null v p (to_name k ∷ q) e is = absurd (let no : ⊥ = cc in no)
    document_schema (boolean b) v p (to_member k ∷ q) e is = absurd (let no : ⊥ = cc in no)
    document_schema (boolean b) v p (to_item n ∷ q) e is = absurd (let no : ⊥ = cc in no)
    document_schema (boolean b) v p (to_name k ∷ q) e is = absurd (let no : ⊥ = cc in no)
    document_schema (number x) v p (to_member k ∷ q) e is = absurd (let no : ⊥ = cc in no)
    document_schema (number x) v p (to_item n ∷ q) e is = absurd (let no : ⊥ = cc in no)
    document_schema (number x) v p (to_name k ∷ q) e is = absurd (let no : ⊥ = cc in no)
    document_schema (string s) v p (to_member k ∷ q) e is = absurd (let no : ⊥ = cc in no)
    document_schema (string s) v p (to_item n ∷ q) e is = absurd (let no : ⊥ = cc in no)
    document_schema (string s) v p (to_name k ∷ q) e is = absurd (let no : ⊥ = cc in no)
    document_schema (array ds) v p (to_member k ∷ q) e is = absurd (let no : ⊥ = cc in no)
    document_schema (array ds) v p (to_name k ∷ q) e is = absurd (let no : ⊥ = cc in no)
    document_schema (object ms) v p (to_item n ∷ q) e is = absurd (let no : ⊥ = cc in no)

    item_schema : (ds : Items) (v : Data) (p : Place) (m n : ℕ) (q : Place) → option_and_then (subject_from q) (option_and_then (λ (d : Data). Some (a_value d)) (item_of n ds)) ≡ Some (a_value v) → is_schema w v ≡ true
        → In (schemas_in_items p m ds) (p ++ to_item (m + n) ∷ q)
    item_schema no_items v p m zero q e is = absurd (let no : ⊥ = cc in no)
    item_schema no_items v p m (suc n) q e is = absurd (let no : ⊥ = cc in no)
    item_schema (item d ds) v p m zero q e is =
        let found = one_step p (to_item m) q (schemas_in (p ++ to_item m ∷ []) d) (document_schema d v (p ++ to_item m ∷ []) q e is) in
        subst (λ i. In (schemas_in_items p m (item d ds)) (p ++ to_item i ∷ q)) (let i : m ≡ m + zero = omega arith in i) (in_left (schemas_in (p ++ to_item m ∷ []) d) (schemas_in_items p (m + 1) ds) (p ++ to_item m ∷ q) found)
    item_schema (item d ds) v p m (suc n) q e is =
        subst (λ i. In (schemas_in_items p m (item d ds)) (p ++ to_item i ∷ q)) (let i : m + 1 + n ≡ m + suc n = omega arith in i)
        (in_right (schemas_in (p ++ to_item m ∷ []) d) (schemas_in_items p (m + 1) ds) (p ++ to_item (m + 1 + n) ∷ q) (item_schema ds v p (m + 1) n q e is))

    member_schema : (ms : Members) (v : Data) (p : Place) (k : Text) (q : Place) → option_and_then (subject_from q) (option_and_then (λ (d : Data). Some (a_value d)) (member_of k ms)) ≡ Some (a_value v) → is_schema w v ≡ true
        → In (schemas_in_members p ms) (p ++ to_member k ∷ q)
    member_schema no_members v p k q e is = absurd (let no : ⊥ = cc in no)
    member_schema (member l d ms) v p k q e is =
        let go : (b : Bool) → bytes_eq k l ≡ b → option_and_then (subject_from q) (option_and_then (λ (x : Data). Some (a_value x)) (cond b (Some d) (member_of k ms))) ≡ Some (a_value v) → In (schemas_in_members p (member l d ms)) (p ++ to_member k ∷ q) = elim [
          | true ↦ λ same there.
              let named : l ≡ k = sym ((bytes_eq-Decides k l).0 same) in
              let found = one_step p (to_member l) q (schemas_in (p ++ to_member l ∷ []) d) (document_schema d v (p ++ to_member l ∷ []) q there is) in
              subst (λ (x : Text). In (schemas_in_members p (member l d ms)) (p ++ to_member x ∷ q)) named (in_left (schemas_in (p ++ to_member l ∷ []) d) (schemas_in_members p ms) (p ++ to_member l ∷ q) found)
          | false ↦ λ other there. in_right (schemas_in (p ++ to_member l ∷ []) d) (schemas_in_members p ms) (p ++ to_member k ∷ q) (member_schema ms v p k q there is)
        ] in
        go (bytes_eq k l) refl e

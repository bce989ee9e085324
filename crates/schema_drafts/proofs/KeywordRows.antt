-- The row found for a name has that name, with the priority and the leaf of the keyword of that
-- name.
use Rattle.std.proofs.Common.{ap, cond, subst, sym, ◌∙◌}
use Rattle.std.proofs.lemmas.Slice.Eq.{bytes_eq-Decides}
use Rattle.std.specs.Prelude.{Bool, List, None, Option, Some, [], bytes_eq, false, find, if◌then◌else◌, option_and_then, option_map, refl, true, ℕ, ◌∷◌, ◌≡◌}
use Rattle.theory_definitions.specs.Instance.{Text}
use Rattle.theory_definitions.specs.Drafts.{Draft, Vocabularies}
use Rattle.theory_definitions.specs.Making.{Builtin}
use Rattle.schema_drafts.specs.KeywordTable.{Entry, Form, Row, Support, builtin_by, builtin_in, builtin_name, builtin_of, entry_by, entry_of, is_met, keyword_table, leaf_of, priority_of, row_named, support_of}

-- the result of a search passes its test
passed : {X : Type 0} (test : X → Bool) (xs : List X) (x : X) → find test xs ≡ Some x → test x ≡ true
passed test [] x e = absurd (let f : ⊥ = cc in f)
passed {X} test (y ∷ xs) x e = go (test y) refl e (passed test xs x)
  where
    go : (b : Bool) → test y ≡ b → cond b (Some y) (find test xs) ≡ Some x → (find test xs ≡ Some x → test x ≡ true) → test x ≡ true
    go true same e' later = let first : y ≡ x = cc in subst (λ (z : X). test z ≡ true) first same
    go false same e' later = later e'

-- the entry has the name that was looked up
name_of_entry : (draft : Draft) (vocabularies : Vocabularies) (name : Text) (e : Entry) → entry_of draft vocabularies name ≡ Some e → name ≡ e.name
name_of_entry draft vocabularies name e h = go (support_of draft name) h
  where
    met : (b : Bool) (form : Form) → (if b then Some (record { name = name; form = form }) else None) ≡ Some e → name ≡ e.name
    met true form k = let same : (let s : Entry = record { name = name; form = form } in s ≡ e) = cc in ap (λ (s : Entry). s.name) same
    met false form k = absurd (let f : ⊥ = cc in f)

    go : (o : Option Support) → option_and_then (entry_by draft vocabularies name) o ≡ Some e → name ≡ e.name
    go None k = absurd (let f : ⊥ = cc in f)
    go (Some s) k = met (is_met draft vocabularies s.need) s.form k

row_gives : (name : Text) (priority : ℕ) (is_leaf : Bool) (o : Option Row) → row_named name ≡ o → option_map (λ r. r.priority) o ≡ Some priority → option_map (λ r. r.is_leaf) o ≡ Some is_leaf → (let b : Builtin = record { name = name; priority = priority; is_leaf = is_leaf } in Some b ≡ option_map builtin_of o)
row_gives name priority is_leaf None found p l = absurd (let f : ⊥ = cc in f)
row_gives name priority is_leaf (Some r) found p l =
    let named : r.name ≡ name = (bytes_eq-Decides r.name name).0 (passed (λ r'. bytes_eq r'.name name) keyword_table r found) in
    let priorities : r.priority ≡ priority = cc in
    let leaves : r.is_leaf ≡ is_leaf = cc in
    λ k. Some (record { name = sym named k; priority = sym priorities k; is_leaf = sym leaves k })

pub builtin_given : (draft : Draft) (vocabularies : Vocabularies) (name : Text) (e : Entry) (priority : ℕ) (is_leaf : Bool) → Some e ≡ entry_of draft vocabularies name → priority_of (builtin_name e.name) ≡ Some priority → leaf_of (builtin_name e.name) ≡ Some is_leaf → (let b : Builtin = record { name = name; priority = priority; is_leaf = is_leaf } in Some b ≡ builtin_in draft vocabularies name)
builtin_given draft vocabularies name e priority is_leaf entry p l =
    let named : name ≡ e.name = name_of_entry draft vocabularies name e (sym entry) in
    let gives : builtin_by e ≡ builtin_in draft vocabularies name = ap (option_and_then builtin_by) entry in
    let row : (let b : Builtin = record { name = e.name; priority = priority; is_leaf = is_leaf } in Some b ≡ option_map builtin_of (row_named e.name)) = row_gives e.name priority is_leaf (row_named e.name) refl p l in
    ap (λ (t : Text). let b : Builtin = record { name = t; priority = priority; is_leaf = is_leaf } in Some b) named ∙ row ∙ gives

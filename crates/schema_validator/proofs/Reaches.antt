-- The keys of a compilation are those that its root reaches, each once.
use Rattle.std.proofs.Common.{◌≡◌, ℕ, zero, suc, ◌<◌, Bool, true, false, List, [], ◌∷◌, length, map, refl, sym, ◌∙◌, ap, arith, ◌&&◌, ◌||◌}
use Rattle.std.specs.List.{list_any}
use Rattle.std.specs.Prelude.{AllPairs, Some, slice_get, slice_index_or, Decides, option_map}
use Rattle.std.proofs.lemmas.Bool.{eqb-true, eq-eqb}
use Rattle.std.proofs.lemmas.Option.{slice_get-map}
use Rattle.std.proofs.lemmas.Slice.Eq.{bytes_eq-Decides}
use Rattle.theory_definitions.specs.Parts.{Parts}
use Rattle.theory_definitions.specs.Plan.{Key, same_key}
use Rattle.theory_meaning.specs.Reach.{IsReach, different}
use Rattle.theory_meaning.specs.Refusals.{Cause}
use Rattle.schema_node_table.specs.NodeTable.{NodeEntry}
use Rattle.schema_compiler.specs.Compilation.{IsCompilationBy}
use Rattle.schema_keys.proofs.SameKeys.{and_parts, draft_itself, draft_true, one_key, schema_place_itself, schema_place_true, vocabularies_itself, vocabularies_true}

both : (a b : Bool) → a ≡ true → b ≡ true → (a && b) ≡ true
both true true p q = refl
both true false p q = q
both false b p q = p

any_at : {A : Type 0} (p : A → Bool) (xs : List A) (i : ℕ) (x : A) → slice_get xs i ≡ Some x → p x ≡ true → list_any p xs ≡ true
any_at p [] i x e h = absurd (let f : ⊥ = cc in f)
any_at p (y ∷ xs) zero x e h = let same : x ≡ y = cc in ap (λ b. b || list_any p xs) (ap p (sym same) ∙ h)
any_at p (y ∷ xs) (suc i) x e h =
    let rest = any_at p xs i x e h in
    let go : (b : Bool) → (b || list_any p xs) ≡ true = elim [ true ↦ refl | false ↦ rest ] in go (p y)

pub get_at : {A : Type 0} (xs : List A) (i : ℕ) (d : A) → i < length xs → slice_get xs i ≡ Some (slice_index_or xs i d)
get_at [] i d h = absurd (omega arith)
get_at (x ∷ xs) zero d h = refl
get_at (x ∷ xs) (suc i) d h = get_at xs i d (omega arith)

module _ {S K R : Type 0} (w : Parts S K R) (law : (a b : S) → Decides (w.resolver.same_state a b) (a ≡ b)) where
  -- a key is the same as itself, and two that are the same are one
  pub same_itself : (a : Key S) → same_key w a a ≡ true
  same_itself a =
      both _ _ (both _ _ (both _ _ (both _ _ (both _ _ (both _ _ (schema_place_itself a.target.place) ((law a.target.state a.target.state).1 refl)) (draft_itself a.target.draft)) (vocabularies_itself a.target.vocabularies))
      ((bytes_eq-Decides a.location a.location).1 refl)) ((bytes_eq-Decides a.base a.base).1 refl)) (eq-eqb a.start a.start refl)

  pub same_true : (a b : Key S) → same_key w a b ≡ true → a ≡ b
  same_true a b h =
      let h1 = and_parts _ _ h in
      let h2 = and_parts _ _ h1.0 in
      let h3 = and_parts _ _ h2.0 in
      let t1 = and_parts _ _ h3.0 in
      let t2 = and_parts _ _ t1.0 in
      let t3 = and_parts _ _ t2.0 in
      one_key a b (schema_place_true _ _ t3.0) ((law _ _).0 t3.1) (draft_true _ _ t2.1) (vocabularies_true _ _ t1.1) ((bytes_eq-Decides a.location b.location).0 h3.1) ((bytes_eq-Decides a.base b.base).0 h2.1) (eqb-true a.start b.start h1.1)

  number_of : (keys : List (Key S)) (i : ℕ) (k : Key S) → slice_get keys i ≡ Some k → slice_get (map Some keys) i ≡ Some (Some k)
  number_of keys i k h = slice_get-map Some keys i ∙ ap (option_map Some) h

  -- whatever is said to be a cause of refusal
  module _ {C : Type 0} {stands : Cause → Type 0} (shape : C → K) (limit nested : ℕ) (root : Key S) (keys : List (Key S)) (nodes : List (NodeEntry C)) (c : IsCompilationBy w stands shape limit nested root keys nodes) where
    once : AllPairs (different w) keys
    once i j x lt within =
        let a = slice_index_or keys i x in
        let b = slice_index_or keys j x in
        let go : (t : Bool) → same_key w a b ≡ t → t ≡ false = elim [
          | true ↦ λ e. absurd (let one : a ≡ b = same_true a b e in
              let at : slice_get keys i ≡ Some a = get_at keys i x (omega arith) in
              let at' : slice_get keys j ≡ Some b = get_at keys j x within in
              let same = c.numbers.once i j a (number_of keys i a at) (number_of keys j a (at' ∙ ap Some (sym one))) in omega (arith, same))
          | false ↦ λ e. refl
        ] in
        go (same_key w a b) refl

    pub reach_of : IsReach w root keys
    reach_of = record {
      sound = c.sound;
      whole = λ k r. let at = c.whole k r in any_at (same_key w k) keys at.0 k at.1 (same_itself k);
      once = once;
    }

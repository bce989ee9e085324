-- The members that no keyword is made of, gathered one by one in the order of their names.
use Rattle.std.proofs.Common.{◌≡◌, Bool, true, false, List, [], ◌∷◌, ◌++◌, Less, Greater, string_bytes, string_cmp, nat_cmp, cond, refl, sym, ap, ◌∙◌, append_assoc}
use Rattle.std.specs.Prelude.{Option, Some, None}
use Rattle.std.specs.List.{AllByRecursion}
use Rattle.std.specs.List.Sorted.{IsStrictlySortedBy}
use Rattle.std.specs.Map.{keys_of}
use Rattle.std.specs.Cmp.Lexicographic.{slice_cmp}
use Rattle.std.specs.Ordering.{ordering_reverse}
use Rattle.std.proofs.lemmas.Cmp.{nat_list_cmp_total}
use Rattle.std.proofs.lemmas.List.{append-nil}
use Rattle.serde_json.specs.Data.{Data, Members, no_members, member, put}
use Rattle.serde_json.specs.View.{view, members_view}
use Rattle.serde_json.proofs.Views.{Entry}
use Rattle.theory_definitions.specs.Instance.{Text}
use Rattle.theory_definitions.specs.Parts.{Parts}
use Rattle.theory_definitions.specs.Plan.{Key, Part, part}
use Rattle.theory_definitions.specs.Units.{absorbed_by, absorbed_in, unknown}
use Rattle.theory_definitions.specs.Guarded.{NodePart}
use Rattle.schema_compiler.specs.Filling.{IsMadePart}

above_all : (first : Entry) (es : List Entry) (e : Entry) (more : List Entry) → AllByRecursion (λ y. string_cmp first.0 y ≡ Less) (keys_of (es ++ e ∷ more)) → string_cmp first.0 e.0 ≡ Less
above_all first [] e more h = h.0
above_all first (x ∷ es) e more h = above_all first es e more h.1

module _ {S K R : Type 0} (w : Parts S K R) (k : Key S) (whole : Members) where
  abbrev known : Text → Bool
  known name = w.resolver.is_known_keyword k.target.draft name

  -- with one member in front, if no keyword is made of it and its name is unknown
  abbrev with_member : Option (Part K) → Bool → Text → Data → Members → Members
  with_member o known name value ms = elim o [ Some p ↦ ms | None ↦ cond known ms (member name value ms) ]

  unknown_same : (done : List Entry) (e : Entry) → unknown w k whole (members_view (e ∷ [])) ≡ no_members → unknown w k whole (members_view done) ≡ unknown w k whole (members_view (done ++ e ∷ []))
  unknown_same [] e h = sym h
  unknown_same (first ∷ done) e h = ap (with_member (part w k whole (string_bytes first.0) (view first.1)) (known (string_bytes first.0)) (string_bytes first.0) (view first.1)) (unknown_same done e h)

  put_over : (o : Option (Part K)) (b : Bool) (name n : Text) (value v : Data) (ms : Members) → slice_cmp nat_cmp n name ≡ Greater → put n v (with_member o b name value ms) ≡ with_member o b name value (put n v ms)
  put_over (Some p) b name n value v ms above = refl
  put_over None true name n value v ms above = refl
  put_over None false name n value v ms above = rw above refl

  unknown_last : (done : List Entry) (e : Entry) (more : List Entry) → IsStrictlySortedBy string_cmp (keys_of (done ++ e ∷ more))
      → unknown w k whole (members_view (e ∷ [])) ≡ member (string_bytes e.0) (view e.1) no_members
      → put (string_bytes e.0) (view e.1) (unknown w k whole (members_view done)) ≡ unknown w k whole (members_view (done ++ e ∷ []))
  unfolding IsStrictlySortedBy
  unknown_last [] e more h is = sym is
  unknown_last (first ∷ done) e more h is =
      let above : slice_cmp nat_cmp (string_bytes e.0) (string_bytes first.0) ≡ Greater =
      nat_list_cmp_total.antisymm (string_bytes e.0) (string_bytes first.0) ∙ ap ordering_reverse (above_all first done e more h.0) in
      let o = part w k whole (string_bytes first.0) (view first.1) in
      let b = known (string_bytes first.0) in
      put_over o b (string_bytes first.0) (string_bytes e.0) (view first.1) (view e.1) (unknown w k whole (members_view done)) above
      ∙ ap (with_member o b (string_bytes first.0) (view first.1)) (unknown_last done e more h.1 is)

  -- the absorbed names, with one more member
  absorbed_more : (done : List Entry) (e : Entry) → absorbed_in w k whole (members_view (done ++ e ∷ [])) ≡ absorbed_in w k whole (members_view done) ++ absorbed_by (part w k whole (string_bytes e.0) (view e.1))
  absorbed_more [] e = append-nil (absorbed_by (part w k whole (string_bytes e.0) (view e.1)))
  absorbed_more (first ∷ done) e = let own = absorbed_by (part w k whole (string_bytes first.0) (view first.1)) in
      ap (λ (names : List Text). own ++ names) (absorbed_more done e) ∙ sym (append_assoc own (absorbed_in w k whole (members_view done)) (absorbed_by (part w k whole (string_bytes e.0) (view e.1))))

  pub more_absorbed : (done : List Entry) (e : Entry) (old new : List Text) → old ≡ absorbed_in w k whole (members_view done)
      → new ≡ old ++ absorbed_by (part w k whole (string_bytes e.0) (view e.1)) → new ≡ absorbed_in w k whole (members_view (done ++ e ∷ []))
  more_absorbed done e old new is added = added ∙ ap (λ (names : List Text). names ++ absorbed_by (part w k whole (string_bytes e.0) (view e.1))) is ∙ sym (absorbed_more done e)

  -- a member with a keyword is none of them
  pub made_known : {C : Type 0} (shape : C → K) (keys : List (Key S)) (x : NodePart C) (done : List Entry) (e : Entry) (old : Members)
      → IsMadePart w keys shape k (Some x) (part w k whole (string_bytes e.0) (view e.1)) → old ≡ unknown w k whole (members_view done) → old ≡ unknown w k whole (members_view (done ++ e ∷ []))
  made_known shape keys x done e old made is =
      let go : (o : Option (Part K)) → IsMadePart w keys shape k (Some x) o → with_member o (known (string_bytes e.0)) (string_bytes e.0) (view e.1) no_members ≡ no_members = elim [ Some p ↦ λ h. refl | None ↦ λ h. absurd h ] in
      is ∙ unknown_same done e (go (part w k whole (string_bytes e.0) (view e.1)) made)

  -- another is kept if its name is unknown
  pub kept_unknown : {C : Type 0} (shape : C → K) (keys : List (Key S)) (done : List Entry) (e : Entry) (more : List Entry) (old new : Members)
      → IsStrictlySortedBy string_cmp (keys_of (done ++ e ∷ more)) → IsMadePart w keys shape k None (part w k whole (string_bytes e.0) (view e.1)) → old ≡ unknown w k whole (members_view done)
      → new ≡ cond (known (string_bytes e.0)) old (put (string_bytes e.0) (view e.1) old) → new ≡ unknown w k whole (members_view (done ++ e ∷ []))
  kept_unknown shape keys done e more old new sorted made is kept =
      let none : (o : Option (Part K)) → IsMadePart w keys shape k None o → o ≡ None = elim [ None ↦ λ h. refl | Some p ↦ λ h. absurd h ] in
      let one : (b : Bool) → known (string_bytes e.0) ≡ b → unknown w k whole (members_view (e ∷ [])) ≡ cond b no_members (member (string_bytes e.0) (view e.1) no_members) =
      λ b h. ap (λ o. with_member o (known (string_bytes e.0)) (string_bytes e.0) (view e.1) no_members) (none (part w k whole (string_bytes e.0) (view e.1)) made) ∙ ap (λ x. cond x no_members (member (string_bytes e.0) (view e.1) no_members)) h in
      let go : (b : Bool) → known (string_bytes e.0) ≡ b → cond b old (put (string_bytes e.0) (view e.1) old) ≡ unknown w k whole (members_view (done ++ e ∷ [])) = elim [
        | true ↦ λ h. is ∙ unknown_same done e (one true h)
        | false ↦ λ h. ap (put (string_bytes e.0) (view e.1)) is ∙ unknown_last done e more sorted (one false h)
      ] in
      kept ∙ go (known (string_bytes e.0)) refl

-- How a run goes from member to member, as the code computes it.
use Rattle.std.proofs.Common.{◌≡◌, ◌∙◌, ◌+◌, ◌∷◌, [], Bool, Equal, List, None, Some, String, ap, drop, false, is_eq, is_some, length, map, nat_cmp, refl, string_bytes, sym, true, ℕ}
use Rattle.std.specs.Prelude.{if◌then◌else◌}
use Rattle.std.specs.declared.alloc.Global.{Global}
use Rattle.std.proofs.lemmas.Map.Text.{is_eq-slice_cmp}
use Rattle.std.proofs.lemmas.Slice.Eq.{bytes_eq-Decides}
use Rattle.std.specs.BTreeMap.{is_at}
use Rattle.std.specs.Cmp.Lexicographic.{slice_cmp}
use Rattle.std.specs.Map.{lookup}
use Rattle.serde_json.specs.Find.{get_member}
use Rattle.serde_json.specs.View.{members_view, view}
use Rattle.serde_json.proofs.Views.{Entry, view-lookup}
use Rattle.theory_definitions.specs.Instance.{Subject, Text}
use Rattle.schema_traits.specs.declared.keyword.Mode.{Mode}
use Rattle.keyword_authoring.specs.Members.{has_member}
use Rattle.keyword_authoring.proofs.MemberNames.{is_some-map}
use Rattle.standard_pattern_properties.specs.Firsts.{first_of, later_of}
use Rattle.standard_pattern_properties.specs.declared.gates.GateRun.{GateRun}
use Rattle.standard_pattern_properties.specs.GatedKeywords.{name_here}
use Rattle.standard_pattern_properties.specs.Gates.{Form, Gate, told}
use Rattle.standard_pattern_properties.specs.GateMoves.{Move, at_gates, at_pattern, seeks, tested, tested_at, matched_by}
use Rattle.standard_pattern_properties.proofs.GateNumbers.{past_none}

-- ---- the name of a member, as the object stores it

pub member_there : (name : Text) (es : List Entry) → is_some (get_member name (members_view es)) ≡ is_some (lookup (is_at (λ k. slice_cmp nat_cmp name (string_bytes k))) es)
member_there name es = ap is_some (sym (view-lookup name es)) ∙ is_some-map view (lookup (is_at (λ k. slice_cmp nat_cmp name (string_bytes k))) es)

pub as_held : (name key : Text) (b : Bool) → b ≡ true → slice_cmp nat_cmp name key ≡ Equal → Some key ≡ (if b then Some name else None)
as_held name key b there e = ap (λ k. Some k) (sym same) ∙ ap (λ b. if b then Some name else None) (sym there)
  where
    same : name ≡ key
    same = (bytes_eq-Decides name key).0 (sym (is_eq-slice_cmp name key) ∙ ap is_eq e)

pub not_held : (name : Text) (b : Bool) → b ≡ false → None ≡ (if b then Some name else None)
not_held name b h = ap (λ b. if b then Some name else None) (sym h)

held_there : (k name : Text) (b : Bool) → Some name ≡ (if b then Some k else None) → (b ≡ true) × (name ≡ k)
held_there k name true h = (refl, let e : name ≡ k = cc in e)
held_there k name false h = cc

held_none : (k : Text) (b : Bool) → None ≡ (if b then Some k else None) → b ≡ false
held_none k true h = cc
held_none k false h = refl

-- ---- from a gate on

module _ (gates : List Gate) (form : Form) (s : Subject) (m : Mode) where
  -- There is no such gate.
  pub seeks_past : (i : ℕ) → drop i gates ≡ [] → (left names : List Text) → seeks gates form s m i left names ≡ seeks gates form s m (i + 1) left names
  seeks_past i e left [] = refl
  seeks_past i e left (k ∷ ks) = ap (λ gs. if has_member k s then at_gates gates form s m (k ∷ ks) left k i gs (λ left'. seeks gates form s m 0 left' ks) else seeks gates form s m 0 left ks) e
      ∙ ap (λ gs. if has_member k s then at_gates gates form s m (k ∷ ks) left k (i + 1) gs (λ left'. seeks gates form s m 0 left' ks) else seeks gates form s m 0 left ks) (sym (past_none i gates e))

  -- So the run continues with the next member.
  pub seeks_next : (i : ℕ) → drop i gates ≡ [] → (left names : List Text) → seeks gates form s m i left names ≡ seeks gates form s m 0 left (later_of names)
  seeks_next i e left [] = refl
  seeks_next i e left (k ∷ ks) = ap (λ gs. if has_member k s then at_gates gates form s m (k ∷ ks) left k i gs (λ left'. seeks gates form s m 0 left' ks) else seeks gates form s m 0 left ks) e ∙ same (has_member k s)
    where
      same : (b : Bool) → (if b then seeks gates form s m 0 left ks else seeks gates form s m 0 left ks) ≡ seeks gates form s m 0 left ks
      same true = refl
      same false = refl

  -- a gate that the run passes
  pub gate_passed : (names left left' : List Text) (k : Text) (j : ℕ) (g : Gate) (next : List Text → Move) → drop j gates ≡ g ∷ drop (j + 1) gates
      → ((next' : List Text → Move) → at_pattern gates form s m names left k j 0 g g.patterns next' ≡ next' left')
      → at_gates gates form s m names left k j (drop j gates) next ≡ at_gates gates form s m names left' k (j + 1) (drop (j + 1) gates) next
  gate_passed names left left' k j g next e passed = ap (λ gs. at_gates gates form s m names left k j gs next) e
      ∙ passed (λ left''. at_gates gates form s m names left'' k (j + 1) (drop (j + 1) gates) next)

  -- ---- at the current member

  pub seeks_here : (j : ℕ) (left names : List Text) (k name : Text) → first_of names ≡ Some k → Some name ≡ (if has_member k s then Some k else None)
      → seeks gates form s m j left names ≡ at_gates gates form s m names left name j (drop j gates) (λ left'. seeks gates form s m 0 left' (later_of names))
  seeks_here j left [] k name e h = cc
  seeks_here j left (l ∷ ls) k name e h =
      let same : l ≡ k = cc in
      let there : (has_member k s ≡ true) × (name ≡ k) = held_there k name (has_member k s) h in
      ap (λ b. if b then at_gates gates form s m (l ∷ ls) left l j (drop j gates) (λ left'. seeks gates form s m 0 left' ls) else seeks gates form s m 0 left ls) (ap (λ x. has_member x s) same ∙ there.0)
      ∙ ap (λ x. at_gates gates form s m (l ∷ ls) left x j (drop j gates) (λ left'. seeks gates form s m 0 left' ls)) (same ∙ sym there.1)

  pub seeks_later : (j : ℕ) (left names : List Text) (k : Text) → first_of names ≡ Some k → None ≡ (if has_member k s then Some k else None)
      → seeks gates form s m j left names ≡ seeks gates form s m 0 left (later_of names)
  seeks_later j left [] k e h = cc
  seeks_later j left (l ∷ ls) k e h =
      let same : l ≡ k = cc in
      ap (λ b. if b then at_gates gates form s m (l ∷ ls) left l j (drop j gates) (λ left'. seeks gates form s m 0 left' ls) else seeks gates form s m 0 left ls) (ap (λ x. has_member x s) same ∙ held_none k (has_member k s) h)

-- ---- names that the error shows

pub told_some : (text : List Text → Text) (ks : List Text) → (ks ≡ [] → ⊥) → told text ks ≡ text ks ∷ []
told_some text [] h = absurd (h refl)
told_some text (k ∷ ks) h = refl

pub no_names : (xs : List (String Global)) → map string_bytes xs ≡ [] → length xs ≡ 0
no_names [] h = refl
no_names (x ∷ xs) h = cc

-- ---- with the current member's name, as the instance stores it

held_first : (s : Subject) (k : Text) (b : Bool) (name : Text) → (if b then Some k else None) ≡ Some name → (b ≡ true) × (name ≡ k)
held_first s k true name h = (refl, let e : name ≡ k = cc in e)
held_first s k false name h = cc

module _ (gates : List Gate) (form : Form) (s : Subject) (m : Mode) where
  pub seeks_held : (j : ℕ) (left names : List Text) (name : Text) → name_here s names ≡ Some name
      → seeks gates form s m j left names ≡ at_gates gates form s m names left name j (drop j gates) (λ left'. seeks gates form s m 0 left' (later_of names))
  seeks_held j left [] name h = cc
  seeks_held j left (k ∷ ks) name h = let there : (has_member k s ≡ true) × (name ≡ k) = held_first s k (has_member k s) name h in
      ap (λ b. if b then at_gates gates form s m (k ∷ ks) left k j (drop j gates) (λ left'. seeks gates form s m 0 left' ks) else seeks gates form s m 0 left ks) there.0
      ∙ ap (λ x. at_gates gates form s m (k ∷ ks) left x j (drop j gates) (λ left'. seeks gates form s m 0 left' ks)) (sym there.1)

  tested_held : (won : Bool) (j l : ℕ) (left names : List Text) (name : Text) → name_here s names ≡ Some name
      → tested gates form s m won j l left names ≡ tested_at gates form s m won names left name j l (drop j gates) (λ left'. seeks gates form s m 0 left' (later_of names))
  tested_held won j l left [] name h = cc
  tested_held won j l left (k ∷ ks) name h = let there : (has_member k s ≡ true) × (name ≡ k) = held_first s k (has_member k s) name h in
      ap (λ b. if b then tested_at gates form s m won (k ∷ ks) left k j l (drop j gates) (λ left'. seeks gates form s m 0 left' ks) else seeks gates form s m 0 left ks) there.0
      ∙ ap (λ x. tested_at gates form s m won (k ∷ ks) left x j l (drop j gates) (λ left'. seeks gates form s m 0 left' ks)) (sym there.1)

  tested_gate : (won : Bool) (j l : ℕ) (left names : List Text) (name : Text) (g : Gate) → name_here s names ≡ Some name → drop j gates ≡ g ∷ drop (j + 1) gates
      → tested gates form s m won j l left names
      ≡ matched_by gates form s m won names left name j l g (λ left'. at_gates gates form s m names left' name (j + 1) (drop (j + 1) gates) (λ left''. seeks gates form s m 0 left'' (later_of names)))
  tested_gate won j l left names name g h e = tested_held won j l left names name h ∙ ap (λ gs. tested_at gates form s m won names left name j l gs (λ left'. seeks gates form s m 0 left' (later_of names))) e

  -- After a match that decides its gate, the run continues with the next gate.
  pub tested_passed : (won : Bool) (j l : ℕ) (left left' names : List Text) (name : Text) (g : Gate) → name_here s names ≡ Some name → drop j gates ≡ g ∷ drop (j + 1) gates
      → ((next : List Text → Move) → matched_by gates form s m won names left name j l g next ≡ next left')
      → tested gates form s m won j l left names ≡ seeks gates form s m (j + 1) left' names
  tested_passed won j l left left' names name g h e passed = tested_gate won j l left names name g h e
      ∙ (passed (λ left''. at_gates gates form s m names left'' name (j + 1) (drop (j + 1) gates) (λ left'''. seeks gates form s m 0 left''' (later_of names)))
      ∙ sym (seeks_held (j + 1) left' names name h))

  -- a run that is done with the current member, and ends like this
  abbrev pub GoesOn : Mode → Move → GateRun → Type 0
  GoesOn m' end r = (r.mode ≡ m') × (seeks gates form s r.mode 0 r.left (later_of r.names) ≡ end)

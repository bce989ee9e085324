-- An iteration over names and members that both ascend.
use Rattle.std.proofs.Common.{◌⊎◌, inl, inr, option_and_then, Option, suc, zero, [], Equal, Greater, Less, List, None, Ordering, Some, String, ap, bytes_eq, cond, drop, false, is_some, length, refl, string_bytes, subst, sym, true, Bool, ℕ, ◌+◌, ◌<◌, ◌≤◌, ◌∙◌, ◌∷◌, ◌≡◌}
use Rattle.std.proofs.lemmas.Bool.{cases_lt}
use Rattle.std.proofs.lemmas.List.{drop-drop, drop_all}
use Rattle.std.proofs.lemmas.Cmp.{nat_list_cmp_total}
use Rattle.std.proofs.lemmas.Map.Text.{is_eq-slice_cmp}
use Rattle.std.proofs.lemmas.Slice.Eq.{bytes_eq-Decides}
use Rattle.std.specs.Cmp.Lexicographic.{slice_cmp}
use Rattle.std.specs.List.{AllByRecursion}
use Rattle.std.specs.List.Sorted.{IsStrictlySortedBy}
use Rattle.std.specs.Map.{keys_of}
use Rattle.std.specs.Ordering.{is_eq, is_lt, nat_cmp, ordering_reverse}
use Rattle.std.specs.String.{string_cmp}
use Rattle.std.specs.declared.alloc.Global.{Global}
use Rattle.serde_json.specs.Data.{object}
use Rattle.serde_json.specs.View.{members_view, view}
use Rattle.serde_json.specs.declared.value.Value.{Value}
use Rattle.theory_definitions.specs.Instance.{Subject, Text, a_value, after_step, member_of, to_member}
use Rattle.schema_traits.specs.AskedAtOnce.{child_below}
use Rattle.schema_traits.specs.Ascending.{place_from}
use Rattle.schema_traits.specs.Members.{Entries, HaveAllOf}
use Rattle.schema_traits.specs.Questions.{at_names}

-- ---- the order of names

abbrev order : Text → Text → Ordering
order = slice_cmp nat_cmp

less_differs : (k l : Text) → order k l ≡ Less → bytes_eq k l ≡ false
less_differs k l h = sym (is_eq-slice_cmp k l) ∙ ap is_eq h

less_differs_back : (k l : Text) → order k l ≡ Less → bytes_eq l k ≡ false
less_differs_back k l h = sym (is_eq-slice_cmp l k) ∙ ap is_eq (nat_list_cmp_total.antisymm l k ∙ ap ordering_reverse h)

less_is : (o : Ordering) → is_lt o ≡ true → o ≡ Less
less_is Less h = refl
less_is Equal h = cc
less_is Greater h = cc

-- a name that is neither equal to another nor above it is below it
behind : (k name : Text) → bytes_eq name k ≡ false → is_lt (order k name) ≡ false → order name k ≡ Less
behind k name differs unless =
    let go : (o : Ordering) → is_eq o ≡ false → is_lt (ordering_reverse o) ≡ false → o ≡ Less = elim [
      | Less ↦ λ a b. refl
      | Equal ↦ λ (a : is_eq Equal ≡ false) (b : is_lt (ordering_reverse Equal) ≡ false). let at : true ≡ false = a in cc
      | Greater ↦ λ (a : is_eq Greater ≡ false) (b : is_lt (ordering_reverse Greater) ≡ false). let at : true ≡ false = b in cc
    ] in
    go (order name k) (is_eq-slice_cmp name k ∙ differs) (ap is_lt (sym (nat_list_cmp_total.antisymm k name)) ∙ unless)

drop_tail : (all : List Text) (i : ℕ) (name : Text) (names : List Text) → drop i all ≡ name ∷ names → drop (i + 1) all ≡ names
drop_tail all i name names is = sym (drop-drop 1 i all) ∙ ap (drop 1) is

-- ---- the members with a name

abbrev IsBelowAll : Text → Entries → Type 0
IsBelowAll l members = AllByRecursion (λ k. order l (string_bytes k) ≡ Less) (keys_of members)

-- a name below all of theirs is none of theirs
absent : (l : Text) (members : Entries) → IsBelowAll l members → member_of l (members_view members) ≡ None
absent l [] h = refl
absent l (e ∷ es) h = ap (λ b. cond b (Some (view e.1)) (member_of l (members_view es))) (less_differs l (string_bytes e.0) h.0) ∙ absent l es h.1

below_more : (l k : Text) (members : Entries) → order l k ≡ Less → IsBelowAll k members → IsBelowAll l members
below_more l k [] h below = tt
below_more l k (e ∷ es) h below = (nat_list_cmp_total.trans l k (string_bytes e.0) h below.0, below_more l k es h below.1)

-- the subject at a name of these members
abbrev among : Text → Entries → Option Subject
among l members = after_step (to_member l) (a_value (object (members_view members)))

module _ (e : String Global × Value) (es : Entries) (ascend : IsStrictlySortedBy string_cmp (keys_of (e ∷ es))) where
  abbrev first : Text
  first = string_bytes e.0

  unfold_ascend : AllByRecursion (λ k. string_cmp e.0 k ≡ Less) (keys_of es) × IsStrictlySortedBy string_cmp (keys_of es)
  unfolding IsStrictlySortedBy
  unfold_ascend = ascend

  all_above : (ks : List (String Global)) (more : Entries) → ks ≡ keys_of more → AllByRecursion (λ k. string_cmp e.0 k ≡ Less) ks → IsBelowAll first more
  all_above ks more is h = subst (λ ls. AllByRecursion (λ k. string_cmp e.0 k ≡ Less) ls) is h

  -- below the first member's name there is nothing
  none_before : (l : Text) → order l first ≡ Less → among l (e ∷ es) ≡ None
  none_before l h =
      ap (λ o. option_and_then (λ d. Some (a_value d)) o) (absent l (e ∷ es) (h, below_more l first es h unfold_ascend.0))

  -- at the first member's name there is the first member
  first_there : among first (e ∷ es) ≡ Some (a_value (view e.1))
  first_there = ap (λ b. option_and_then (λ d. Some (a_value d)) (cond b (Some (view e.1)) (member_of first (members_view es)))) ((bytes_eq-Decides first first).1 refl)

  -- above the first member's name the others have what all have
  rest_behind : (l : Text) → order first l ≡ Less → among l (e ∷ es) ≡ among l es
  rest_behind l h = ap (λ b. option_and_then (λ d. Some (a_value d)) (cond b (Some (view e.1)) (member_of l (members_view es)))) (less_differs_back first l h)

-- ---- the names from an index on

-- the names that are not below this one
abbrev names_from : Text → List Text → List Text
names_from k [] = []
names_from k (name ∷ names) = cond (bytes_eq name k) (name ∷ names) (cond (is_lt (order k name)) (name ∷ names) (names_from k names))

place_is : (k : Text) (all : List Text) (i : ℕ) (ns : List Text) → drop i all ≡ ns → drop (place_from k i ns).0 all ≡ names_from k ns
place_is k all i [] is = is
place_is k all i (name ∷ names) is =
    let more : drop (i + 1) all ≡ names = drop_tail all i name names is in
    let second : (c : Bool) → drop (cond c (i, false) (place_from k (i + 1) names)).0 all ≡ cond c (name ∷ names) (names_from k names) = elim [
      | true ↦ is
      | false ↦ place_is k all (i + 1) names more
    ] in
    let first : (b : Bool) → drop (cond b (i, true) (cond (is_lt (order k name)) (i, false) (place_from k (i + 1) names))).0 all ≡ cond b (name ∷ names) (cond (is_lt (order k name)) (name ∷ names) (names_from k names)) = elim [
      | true ↦ is
      | false ↦ second (is_lt (order k name))
    ] in
    first (bytes_eq name k)

abbrev Ascend : List Text → Type 0
Ascend names = IsStrictlySortedBy (slice_cmp nat_cmp) names

abbrev AllAbove : Text → List Text → Type 0
AllAbove k names = AllByRecursion (λ l. order k l ≡ Less) names

ascend_parts : (name : Text) (names : List Text) → Ascend (name ∷ names) → AllAbove name names × Ascend names
unfolding IsStrictlySortedBy
ascend_parts name names h = h

drop_ascends : (i : ℕ) (names : List Text) → Ascend names → Ascend (drop i names)
drop_ascends zero names h = h
drop_ascends (suc i) [] h = h
drop_ascends (suc i) (name ∷ names) h = drop_ascends i names (ascend_parts name names h).1

above_more : (k l : Text) (names : List Text) → order k l ≡ Less → AllAbove l names → AllAbove k names
above_more k l [] h above = tt
above_more k l (name ∷ names) h above = (nat_list_cmp_total.trans k l name h above.0, above_more k l names h above.1)

-- a name that is found is the first of those from its index on, and the others are above it
found_first : (k : Text) (i : ℕ) (ns : List Text) → Ascend ns → (place_from k i ns).1 ≡ true → (rest : List Text) × (names_from k ns ≡ k ∷ rest) × AllAbove k rest
found_first k i [] ascend found = cc
found_first k i (name ∷ names) ascend found =
    let parts = ascend_parts name names ascend in
    let second : (c : Bool) → (cond c (i, false) (place_from k (i + 1) names)).1 ≡ true → (rest : List Text) × (cond c (name ∷ names) (names_from k names) ≡ k ∷ rest) × AllAbove k rest = elim [
      | true ↦ λ (h : false ≡ true). cc
      | false ↦ λ h. found_first k (i + 1) names parts.1 h
    ] in
    let first : (b : Bool) → bytes_eq name k ≡ b → (cond b (i, true) (cond (is_lt (order k name)) (i, false) (place_from k (i + 1) names))).1 ≡ true
    → (rest : List Text) × (cond b (name ∷ names) (cond (is_lt (order k name)) (name ∷ names) (names_from k names)) ≡ k ∷ rest) × AllAbove k rest = elim [
      | true ↦ λ is h. let same : name ≡ k = (bytes_eq-Decides name k).0 is in (names, ap (λ l. l ∷ names) same, subst (λ l. AllAbove l names) same parts.0)
      | false ↦ λ is h. second (is_lt (order k name)) h
    ] in
    first (bytes_eq name k) refl found

-- if it is not found, those from its index on are above it
passed_first : (k : Text) (i : ℕ) (ns : List Text) → Ascend ns → (place_from k i ns).1 ≡ false → AllAbove k (names_from k ns)
passed_first k i [] ascend passed = tt
passed_first k i (name ∷ names) ascend passed =
    let parts = ascend_parts name names ascend in
    let second : (c : Bool) → is_lt (order k name) ≡ c → (cond c (i, false) (place_from k (i + 1) names)).1 ≡ false → AllAbove k (cond c (name ∷ names) (names_from k names)) = elim [
      | true ↦ λ less h. (less_is (order k name) less, above_more k name names (less_is (order k name) less) parts.0)
      | false ↦ λ less h. passed_first k (i + 1) names parts.1 h
    ] in
    let first : (b : Bool) → (cond b (i, true) (cond (is_lt (order k name)) (i, false) (place_from k (i + 1) names))).1 ≡ false
    → AllAbove k (cond b (name ∷ names) (cond (is_lt (order k name)) (name ∷ names) (names_from k names))) = elim [
      | true ↦ λ (h : true ≡ false). cc
      | false ↦ λ h. second (is_lt (order k name)) refl h
    ] in
    first (bytes_eq name k) passed

-- ---- one member further

abbrev IsFound : Subject → Entries → Text → Type 0
IsFound s members k = after_step (to_member k) s ≡ among k members

module _ (s : Subject) (e : String Global × Value) (es : Entries) (ascend : IsStrictlySortedBy string_cmp (keys_of (e ∷ es))) where
  abbrev key : Text
  key = string_bytes e.0

  -- a fact about each name holds of those from an index on
  all_from : (P : Text → Type 0) (ns : List Text) → AllByRecursion P ns → AllByRecursion P (names_from key ns)
  all_from P [] h = tt
  all_from P (name ∷ names) h =
      let second : (c : Bool) → AllByRecursion P (cond c (name ∷ names) (names_from key names)) = elim [ true ↦ h | false ↦ all_from P names h.1 ] in
      let first : (b : Bool) → AllByRecursion P (cond b (name ∷ names) (cond (is_lt (order key name)) (name ∷ names) (names_from key names))) = elim [ true ↦ h | false ↦ second (is_lt (order key name)) ] in
      first (bytes_eq name key)

  -- the names before the member's are not in the subject
  skips : (i : ℕ) (ns : List Text) → AllByRecursion (IsFound s (e ∷ es)) ns → at_names s i ns ≡ at_names s (place_from key i ns).0 (names_from key ns)
  skips i [] found = refl
  skips i (name ∷ names) found =
      let second : (c : Bool) → bytes_eq name key ≡ false → is_lt (order key name) ≡ c
      → at_names s i (name ∷ names) ≡ at_names s (cond c (i, false) (place_from key (i + 1) names)).0 (cond c (name ∷ names) (names_from key names)) = elim [
        | true ↦ λ differs less. refl
        | false ↦ λ differs less.
            let none : after_step (to_member name) s ≡ None = found.0 ∙ none_before e es ascend name (behind key name differs less) in
            ap (λ o. cond (is_some o) (child_below i name ∷ at_names s (i + 1) names) (at_names s (i + 1) names)) none ∙ skips (i + 1) names found.1
      ] in
      let first : (b : Bool) → bytes_eq name key ≡ b
      → at_names s i (name ∷ names) ≡ at_names s (cond b (i, true) (cond (is_lt (order key name)) (i, false) (place_from key (i + 1) names))).0 (cond b (name ∷ names) (cond (is_lt (order key name)) (name ∷ names) (names_from key names))) = elim [
        | true ↦ λ is. refl
        | false ↦ λ is. second (is_lt (order key name)) is refl
      ] in
      first (bytes_eq name key) refl

  -- the names above the member's are found among the others
  found_behind : (ns : List Text) → AllAbove key ns → AllByRecursion (IsFound s (e ∷ es)) ns → AllByRecursion (IsFound s es) ns
  found_behind [] above found = tt
  found_behind (name ∷ names) above found = (found.0 ∙ rest_behind e es ascend name above.0, found_behind names above.1 found.1)

-- ---- a call of `next`: the names from i on, and the index of a member's name among them

place_parts : (q : ℕ × Bool) (p : ℕ) (b : Bool) → q ≡ (p, b) → (q.0 ≡ p) × (q.1 ≡ b)
place_parts q p b is = (ap (λ r. r.0) is, ap (λ r. r.1) is)

module _ (names : List Text) (ascend : Ascend names) (i p : ℕ) (k : Text) where
  -- a name that is found is at its index, and those after it are above it
  pub found_at : place_from k i (drop i names) ≡ (p, true) → (drop p names ≡ k ∷ drop (p + 1) names) × AllAbove k (drop (p + 1) names)
  found_at place =
      let parts = place_parts (place_from k i (drop i names)) p true place in
      let first = found_first k i (drop i names) (drop_ascends i names ascend) parts.1 in
      let there : drop p names ≡ k ∷ first.0 = ap (λ n. drop n names) (sym parts.0) ∙ place_is k names i (drop i names) refl ∙ first.1 in
      let rest : drop (p + 1) names ≡ first.0 = drop_tail names p k first.0 there in
      (there ∙ ap (λ l. k ∷ l) (sym rest), subst (AllAbove k) (sym rest) first.2)

  pub found_within : place_from k i (drop i names) ≡ (p, true) → p < length names
  found_within place =
      let go : (p < length names) ⊎ (length names ≤ p) → p < length names = elim [
        | inl h ↦ h
        | inr h ↦ let gone : [] ≡ k ∷ drop (p + 1) names = sym (drop_all p names h) ∙ (found_at place).0 in cc
      ] in
      go (cases_lt p (length names))

module _ (s : Subject) (names : List Text) (ascend : Ascend names) (i p : ℕ) (e : String Global × Value) (es : Entries) (have : HaveAllOf s (drop i names) (e ∷ es)) where
  abbrev its : Text
  its = string_bytes e.0

  from_place : (b : Bool) → place_from its i (drop i names) ≡ (p, b)
      → (at_names s i (drop i names) ≡ at_names s p (drop p names)) × (drop p names ≡ names_from its (drop i names)) × AllByRecursion (IsFound s (e ∷ es)) (drop p names)
  from_place b place =
      let parts = place_parts (place_from its i (drop i names)) p b place in
      let there : drop p names ≡ names_from its (drop i names) = ap (λ n. drop n names) (sym parts.0) ∙ place_is its names i (drop i names) refl in (
        skips s e es have.ascend i (drop i names) have.found ∙ ap (λ n. at_names s n (names_from its (drop i names))) parts.0 ∙ ap (at_names s p) (sym there),
        there,
        subst (AllByRecursion (IsFound s (e ∷ es))) (sym there) (all_from s e es have.ascend (IsFound s (e ∷ es)) (drop i names) have.found),
      )

  module _ (place : place_from its i (drop i names) ≡ (p, true)) where
    found_here : AllByRecursion (IsFound s (e ∷ es)) (its ∷ drop (p + 1) names)
    found_here = subst (AllByRecursion (IsFound s (e ∷ es))) (found_at names ascend i p its place).0 (from_place true place).2

    -- the member whose name is found is the subject there
    pub found_stands : after_step (to_member its) s ≡ Some (a_value (view e.1))
    found_stands = found_here.0 ∙ first_there e es have.ascend

    -- its child is asked about it
    pub found_asked : at_names s i (drop i names) ≡ child_below p its ∷ at_names s (p + 1) (drop (p + 1) names)
    found_asked =
        (from_place true place).0
        ∙ ap (at_names s p) (found_at names ascend i p its place).0
        ∙ ap (λ o. cond (is_some o) (child_below p its ∷ at_names s (p + 1) (drop (p + 1) names)) (at_names s (p + 1) (drop (p + 1) names))) found_stands

    -- the other members have all of the names after it
    pub found_goes_on : HaveAllOf s (drop (p + 1) names) es
    found_goes_on = record {
      ascend = (unfold_ascend e es have.ascend).1;
      found = found_behind s e es have.ascend (drop (p + 1) names) (found_at names ascend i p its place).1 found_here.1;
    }

  module _ (place : place_from its i (drop i names) ≡ (p, false)) where
    -- if a member's name is not found, nothing is asked about it
    pub passed_asked : at_names s i (drop i names) ≡ at_names s p (drop p names)
    passed_asked = (from_place false place).0

    -- and the other members have all of the names from its index on
    pub passed_goes_on : HaveAllOf s (drop p names) es
    passed_goes_on =
        let parts = place_parts (place_from its i (drop i names)) p false place in
        let above : AllAbove its (drop p names) = subst (AllAbove its) (sym (from_place false place).1) (passed_first its i (drop i names) (drop_ascends i names ascend) parts.1) in
        record { ascend = (unfold_ascend e es have.ascend).1; found = found_behind s e es have.ascend (drop p names) above (from_place false place).2 }

none_found : (s : Subject) (i : ℕ) (ns : List Text) → AllByRecursion (IsFound s []) ns → at_names s i ns ≡ []
none_found s i [] found = refl
none_found s i (name ∷ names) found =
    ap (λ o. cond (is_some o) (child_below i name ∷ at_names s (i + 1) names) (at_names s (i + 1) names)) found.0 ∙ none_found s (i + 1) names found.1

-- if no member is left, nothing is asked
pub none_asked : (s : Subject) (i : ℕ) (ns : List Text) (members : Entries) → members ≡ [] → HaveAllOf s ns members → at_names s i ns ≡ []
none_asked s i ns members is have = none_found s i ns (subst (λ es. AllByRecursion (IsFound s es) ns) is have.found)

all_alike : (members : Entries) (names : List Text) → AllByRecursion (IsFound (a_value (object (members_view members))) members) names
all_alike members [] = tt
all_alike members (name ∷ names) = (refl, all_alike members names)

-- the members of an object have all that it has of any names
pub all_had : (members : Entries) (names : List Text) → IsStrictlySortedBy string_cmp (keys_of members) → HaveAllOf (a_value (object (members_view members))) names members
all_had members names ascend = record { ascend = ascend; found = all_alike members names }

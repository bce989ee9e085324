-- Two objects whose members are in the order of their names are equal if a walk along both finds
-- them equal.
use Rattle.std.proofs.Common.{◌≡◌, ◌==◌, ◌&&◌, ℕ, suc, ◌≤◌, List, [], ◌∷◌, length, Bool, true, false, None, Some, Ordering, Less, Equal, Greater, String, Global, bytes_eq, string_bytes, Option, option_map, unwrap_or, string_cmp, is_eq, refl, sym, ap, ap₂, ◌∙◌, arith, true≢false}
use Rattle.std.proofs.lemmas.Bool.Decides.{nat_tests}
use Rattle.std.proofs.lemmas.Cmp.{nat_list_cmp_total}
use Rattle.std.proofs.lemmas.Map.Text.{is_eq-slice_cmp}
use Rattle.std.specs.List.{AllByRecursion}
use Rattle.std.specs.List.Sorted.{IsStrictlySortedBy}
use Rattle.std.specs.Map.{keys_of}
use Rattle.std.specs.Ordering.{ordering_reverse}
use Rattle.serde_json.specs.Data.{Data, Members}
use Rattle.serde_json.specs.Find.{get_member}
use Rattle.serde_json.specs.View.{members_view, view}
use Rattle.serde_json.proofs.Views.{Entry}
use Rattle.json_values.proofs.Counts.{member_count}
use Rattle.json_values.specs.Equality.{equal, equal_members, members_walk, members_within}

abbrev Below : String Global → List Entry → Type 0
Below k es = AllByRecursion (λ y. string_cmp k y ≡ Less) (keys_of es)

abbrev Sorted : List Entry → Type 0
Sorted es = IsStrictlySortedBy string_cmp (keys_of es)

absent : (k : String Global) (fs : List Entry) → Below k fs → get_member (string_bytes k) (members_view fs) ≡ None
absent k [] below = refl
absent k (f ∷ fs) below = rw below.0 (absent k fs below.1)

below_through : (k l : String Global) (fs : List Entry) → string_cmp k l ≡ Less → Below l fs → Below k fs
below_through k l [] less below = tt
below_through k l (f ∷ fs) less below =
    (nat_list_cmp_total.trans (string_bytes k) (string_bytes l) (string_bytes f.0) less below.0, below_through k l fs less below.1)

below_same : (k l : String Global) (fs : List Entry) → string_cmp k l ≡ Equal → Below k fs → Below l fs
below_same k l [] same below = tt
below_same k l (f ∷ fs) same below =
    (sym (nat_list_cmp_total.congr (string_bytes k) (string_bytes l) (string_bytes f.0) same) ∙ below.0, below_same k l fs same below.1)

turned : (k l : String Global) (o : Ordering) → string_cmp k l ≡ o → string_cmp l k ≡ ordering_reverse o
turned k l o is = nat_list_cmp_total.antisymm (string_bytes l) (string_bytes k) ∙ ap ordering_reverse is

-- ---- a step of each

abbrev found : Data → Option Data → Bool
found d o = unwrap_or (option_map (equal d) o) false

within_step : (e : Entry) (es : List Entry) (ns : Members)
    → members_within (members_view (e ∷ es)) ns ≡ (found (view e.1) (get_member (string_bytes e.0) ns) && members_within (members_view es) ns)
within_step e es ns = refl

abbrev walk : List Entry → List Entry → Bool
walk es fs = members_walk (members_view es) (members_view fs)

walk_step : (e f : Entry) (es fs : List Entry) → walk (e ∷ es) (f ∷ fs) ≡ (bytes_eq (string_bytes e.0) (string_bytes f.0) && (equal (view e.1) (view f.1) && walk es fs))
walk_step e f es fs = refl

abbrev within : List Entry → List Entry → Bool
within es fs = members_within (members_view es) (members_view fs)

-- a member below all others is skipped
within_later : (es : List Entry) (f : Entry) (fs : List Entry) → Below f.0 es → within es (f ∷ fs) ≡ within es fs
within_later [] f fs below = refl
within_later (e ∷ es) f fs below =
    let first : get_member (string_bytes e.0) (members_view (f ∷ fs)) ≡ get_member (string_bytes e.0) (members_view fs) = rw (turned f.0 e.0 Less below.0) refl in
    within_step e es (members_view (f ∷ fs))
    ∙ ap (λ o. found (view e.1) o && within es (f ∷ fs)) first
    ∙ ap (λ b. found (view e.1) (get_member (string_bytes e.0) (members_view fs)) && b) (within_later es f fs below.1)
    ∙ sym (within_step e es (members_view fs))

-- no member of a name below all names
none_within : (e : Entry) (es fs : List Entry) → Below e.0 fs → within (e ∷ es) fs ≡ false
none_within e es fs below = within_step e es (members_view fs) ∙ ap (λ o. found (view e.1) o && within es fs) (absent e.0 fs below)

second : (a b : Bool) → (a && b) ≡ true → b ≡ true
second true b h = h
second false b h = absurd (true≢false (sym h))

fewer : (es fs : List Entry) → Sorted es → Sorted fs → within es fs ≡ true → length es ≤ length fs
unfolding IsStrictlySortedBy
fewer [] fs p q h = omega arith
fewer (e ∷ es) [] p q h = absurd (true≢false (sym h))
fewer (e ∷ es) (f ∷ fs) p q h = by (string_cmp e.0 f.0) refl (fewer es fs p.1 q.1) (fewer (e ∷ es) fs p q.1)
  where
    by : (o : Ordering) → string_cmp e.0 f.0 ≡ o → (within es fs ≡ true → length es ≤ length fs) → (within (e ∷ es) fs ≡ true → suc (length es) ≤ length fs)
        → suc (length es) ≤ suc (length fs)
    by Less is both longer = absurd (true≢false (sym h ∙ none_within e es (f ∷ fs) (is, below_through e.0 f.0 fs is q.0)))
    by Equal is both longer =
        let rest : within es fs ≡ true = sym (within_later es f fs (below_same e.0 f.0 es is p.0)) ∙ second (found (view e.1) (get_member (string_bytes e.0) (members_view (f ∷ fs)))) (within es (f ∷ fs)) (sym (within_step e es (members_view (f ∷ fs))) ∙ h) in
        let shorter : length es ≤ length fs = both rest in
        omega arith
    by Greater is both longer =
        let above = turned e.0 f.0 Greater is in
        let rest : within (e ∷ es) fs ≡ true = sym (within_later (e ∷ es) f fs (above, below_through f.0 e.0 es above p.0)) ∙ h in
        let shorter : suc (length es) ≤ length fs = longer rest in
        omega arith

dropped : (a b : Bool) → b ≡ false → false ≡ (a && b)
dropped true b h = sym h
dropped false b h = refl

swapped : (a b c : Bool) → (a && (b && c)) ≡ (b && (a && c))
swapped true b c = refl
swapped false true c = refl
swapped false false c = refl

same_test : (m n : ℕ) → (m == n) ≡ (suc m == suc n)
same_test m n = grind (arith, nat_tests)

pub walk_is : (es fs : List Entry) → Sorted es → Sorted fs → walk es fs ≡ ((length es == length fs) && within es fs)
unfolding IsStrictlySortedBy
walk_is [] [] p q = refl
walk_is [] (f ∷ fs) p q = grind (arith, nat_tests)
walk_is (e ∷ es) [] p q = dropped _ _ refl
walk_is (e ∷ es) (f ∷ fs) p q = by (string_cmp e.0 f.0) refl (walk_is es fs p.1 q.1)
  where
    different : (o : Ordering) → string_cmp e.0 f.0 ≡ o → is_eq o ≡ false → false ≡ ((suc (length es) == suc (length fs)) && within (e ∷ es) (f ∷ fs))
        → walk (e ∷ es) (f ∷ fs) ≡ ((suc (length es) == suc (length fs)) && within (e ∷ es) (f ∷ fs))
    different o is no_tie fails =
        walk_step e f es fs
        ∙ ap (λ b. b && (equal (view e.1) (view f.1) && walk es fs)) (sym (is_eq-slice_cmp (string_bytes e.0) (string_bytes f.0)) ∙ ap is_eq is ∙ no_tie)
        ∙ fails

    by_length : (b : Bool) → within (e ∷ es) (f ∷ fs) ≡ b → within (e ∷ es) fs ≡ b → false ≡ ((suc (length es) == suc (length fs)) && b)
    by_length false is rest = dropped _ _ refl
    by_length true is rest = let shorter : suc (length es) ≤ length fs = fewer (e ∷ es) fs p q.1 rest in grind (arith, nat_tests)

    by : (o : Ordering) → string_cmp e.0 f.0 ≡ o → walk es fs ≡ ((length es == length fs) && within es fs) → walk (e ∷ es) (f ∷ fs) ≡ ((suc (length es) == suc (length fs)) && within (e ∷ es) (f ∷ fs))
    by Less is later = different Less is refl (dropped _ _ (none_within e es (f ∷ fs) (is, below_through e.0 f.0 fs is q.0)))
    by Equal is later =
        let here : get_member (string_bytes e.0) (members_view (f ∷ fs)) ≡ Some (view f.1) = rw is refl in
        let is_equal = equal (view e.1) (view f.1) in
        walk_step e f es fs
        ∙ ap (λ b. b && (is_equal && walk es fs)) (sym (is_eq-slice_cmp (string_bytes e.0) (string_bytes f.0)) ∙ ap is_eq is)
        ∙ ap (λ b. is_equal && b) later
        ∙ swapped is_equal (length es == length fs) (within es fs)
        ∙ ap (λ b. (length es == length fs) && (is_equal && b)) (sym (within_later es f fs (below_same e.0 f.0 es is p.0)))
        ∙ ap (λ o. (length es == length fs) && (found (view e.1) o && within es (f ∷ fs))) (sym here)
        ∙ ap (λ b. (length es == length fs) && b) (sym (within_step e es (members_view (f ∷ fs))))
        ∙ ap (λ b. b && within (e ∷ es) (f ∷ fs)) (same_test (length es) (length fs))
    by Greater is later =
        let above = turned e.0 f.0 Greater is in
        let passed = within_later (e ∷ es) f fs (above, below_through f.0 e.0 es above p.0) in
        different Greater is refl (by_length _ refl (sym passed))

pub members_walk_is : (es fs : List Entry) → Sorted es → Sorted fs → walk es fs ≡ equal_members (members_view es) (members_view fs)
members_walk_is es fs p q = walk_is es fs p q ∙ ap₂ (λ m n. (m == n) && within es fs) (sym (member_count es)) (sym (member_count fs))

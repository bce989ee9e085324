-- The members of a cover have the answers that every completion has.
use Rattle.std.proofs.Common.{◌≡◌, List, [], ◌∷◌, ◌++◌, refl, ap, sym, subst, ◌∙◌, Bool, true, false, cond, ◌||◌, append_assoc, get_or, ◌⊎◌, inl, inr}
use Rattle.std.specs.Prelude.{Option, Some, None, Contains, find, option_map, filter_map, ⊤, ◌↔◌}
use Rattle.std.specs.List.{list_any, cons_option}
use Rattle.std.proofs.lemmas.List.Elements.{All-contains_itself, Contains-append_cases}
use Rattle.std.proofs.lemmas.List.Sums.{AllPass-from_list_all, list_all-from_AllPass}
use Rattle.std.proofs.lemmas.List.Elements.{All-contains}
use Rattle.theory_definitions.specs.Matching.{Pair, same_pair, Completion, completed, all_match, Assumed, Assumptions, assumed, completion_of, Extends}
use Rattle.theory_definitions.specs.Keywords.{for_all}
use Rattle.theory_definitions.specs.Runs.{Met}
use Rattle.theory_definitions.specs.Cover.{Call, mode_of, Sense, Cover, whole, split, assuming}
use Rattle.theory_meaning.specs.Shared.{EachAccepts}
use Rattle.theory_meaning.specs.Members.{AllAssumed, SameIn, Follows, verdict_of, all_accept}
use Rattle.theory_meaning.proofs.CoversApart.{only_one, covered, Faithful, extended, same_is, Some-is, unassumed}
use Rattle.theory_meaning.proofs.Plans.{settled_verdict}

-- ---- the completion of a list that contains no pair twice extends the list

abbrev yes_pair : Assumed → Option Pair
yes_pair x = cond x.outcome (Some x.pair) None

not_among : (as' : Assumptions) (a : Pair) → assumed as' a ≡ None → list_any (same_pair a) (filter_map yes_pair as') ≡ false
not_among [] a e = refl
not_among (x ∷ xs) a e = go (same_pair a x.pair) x.outcome refl refl e (not_among xs a)
  where
    go : (t b : Bool) → same_pair a x.pair ≡ t → x.outcome ≡ b → option_map (λ y. y.outcome) (cond t (Some x) (find (λ y. same_pair a y.pair) xs)) ≡ None
        → (assumed xs a ≡ None → list_any (same_pair a) (filter_map yes_pair xs) ≡ false)
        → list_any (same_pair a) (cons_option (cond b (Some x.pair) None) (filter_map yes_pair xs)) ≡ false
    go true b is o h k = absurd (cc h)
    go false true is o h k = ap (λ z. z || list_any (same_pair a) (filter_map yes_pair xs)) is ∙ k h
    go false false is o h k = k h

pub own_extended : (as' : Assumptions) (m : Met) (b : Bool) → assumed as' m.pair ≡ None → Extends (completion_of as') as' → Extends (completion_of (assuming m b as')) (assuming m b as')
own_extended as' m true new h a b' is = go (same_pair a m.pair) is (h a b')
  where
    go : (t : Bool) → option_map (λ x. x.outcome) (cond t (Some (record { pair = m.pair; outcome = true })) (find (λ x. same_pair a x.pair) as')) ≡ Some b'
        → (assumed as' a ≡ Some b' → completed (completion_of as') a ≡ b')
        → cond (t || list_any (same_pair a) (filter_map yes_pair as')) true false ≡ b'
    go true i k = Some-is true b' i
    go false i k = k i
own_extended as' m false new h a b' is = go (same_pair a m.pair) refl is (h a b')
  where
    go : (t : Bool) → same_pair a m.pair ≡ t → option_map (λ x. x.outcome) (cond t (Some (record { pair = m.pair; outcome = false })) (find (λ x. same_pair a x.pair) as')) ≡ Some b'
        → (assumed as' a ≡ Some b' → completed (completion_of as') a ≡ b')
        → completed (completion_of as') a ≡ b'
    go true s i k = ap (λ z. cond z true false) (not_among as' a (ap (assumed as') (same_is a m.pair s) ∙ new)) ∙ Some-is false b' i
    go false s i k = k i

abbrev pub Longer : Assumptions → Type 0
Longer [] = ⊥
Longer (a ∷ as') = ⊤

module _ (v : Sense) (call : Call) where
  pub record IsMember (m : Assumptions) : Type 0 where
    pub ends : AllAssumed m (v.meets call m)
    pub own : Extends (completion_of m) m

  pub is_member : {as' : Assumptions} {ms : List Assumptions} → Cover v call as' ms → Extends (completion_of as') as' → (m : Assumptions) → Contains ms m → IsMember m
  is_member (whole e) h m in_ms = subst IsMember (only_one _ m in_ms) (record { ends = e; own = h })
  is_member {as'} (split {no = ns} {yes = ys} x e s t) h m in_ms =
      let new : assumed as' x.pair ≡ None = unassumed v call as' x e in
      go (Contains-append_cases ns ys m in_ms) (λ k. is_member s (own_extended as' x false new h) m k) (λ k. is_member t (own_extended as' x true new h) m k)
    where
      go : Contains ns m ⊎ Contains ys m → (Contains ns m → IsMember m) → (Contains ys m → IsMember m) → IsMember m
      go (inl k) f g = f k
      go (inr k) f g = g k

  pub longer : {as' : Assumptions} {ms : List Assumptions} → Cover v call as' ms → Longer as' → (m : Assumptions) → Contains ms m → Longer m
  longer (whole e) h m in_ms = subst Longer (only_one _ m in_ms) h
  longer (split {no = ns} {yes = ys} x e s t) h m in_ms = go (Contains-append_cases ns ys m in_ms) (longer s tt m) (longer t tt m)
    where
      go : Contains ns m ⊎ Contains ys m → (Contains ns m → Longer m) → (Contains ys m → Longer m) → Longer m
      go (inl k) f g = f k
      go (inr k) f g = g k

  -- The last member assumes a yes everywhere.
  pub last_member : {as' : Assumptions} {ms : List Assumptions} → Cover v call as' ms → Extends all_match as'
      → (others : List Assumptions) × (last : Assumptions) × (ms ≡ others ++ last ∷ []) × Extends all_match last
  last_member {as'} (whole e) h = ([], as', refl, h)
  last_member {as'} (split {no = ns} {yes = ys} x e s t) h =
      let (others, last, is, ext) = last_member t (extended all_match as' x true h refl) in
      (ns ++ others, last, ap (λ zs. ns ++ zs) is ∙ sym (append_assoc ns others (last ∷ [])), ext)

  module _ (follows : Follows v) (ms : List Assumptions) (cover : Cover v call [] ms) where
    members : (m : Assumptions) → Contains ms m → IsMember m
    members = is_member cover (λ a b is. absurd (cc is))

    pub member_verdict : (m : Assumptions) → Contains ms m → (c : Completion) → Extends c m → (v.says (completion_of m)).verdict ≡ (v.says c).verdict
    member_verdict m in_ms c ext = let x = members m in_ms in
        settled_verdict (mode_of call m) _ _ (follows.agrees (completion_of m)) (follows.agrees c) (follows.speaks call m c x.own ext x.ends)

    -- All members accept if and only if every completion does.
    pub all_accept_each : (all_accept v ms ≡ true) ↔ EachAccepts v
    all_accept_each = (to, from)
      where
        to : all_accept v ms ≡ true → EachAccepts v
        to all c = let (m, in_ms, ext) = covered v call c cover (λ a b is. absurd (cc is)) in
            sym (member_verdict m in_ms c ext) ∙ All-contains (λ x. verdict_of v x ≡ true) ms m (AllPass-from_list_all _ ms all) in_ms

        from : EachAccepts v → all_accept v ms ≡ true
        from each = list_all-from_AllPass _ ms (λ i d is. each _)

    module _ (wants_all : (m : Assumptions) → Contains ms m → mode_of call m ≡ for_all) where
      member_errors : (m : Assumptions) → Contains ms m → (c : Completion) → Extends c m → (v.says (completion_of m)).errors ≡ (v.says c).errors
      member_errors m in_ms c ext = let x = members m in_ms in
          subst (λ mode. SameIn mode (v.says (completion_of m)) (v.says c)) (wants_all m in_ms) (follows.speaks call m c x.own ext x.ends)

      pub faithful : Faithful v ms
      faithful c = λ i d is ext. let in_ms = All-contains_itself ms i d is in let m : Assumptions = get_or ms i d in
          sym (member_errors m in_ms c ext)

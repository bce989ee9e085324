-- Meeting a match again does not change what a run remembers of unfinished matches.
use Rattle.std.proofs.Common.{◌≡◌, Bool, true, false, cond, List, [], ◌∷◌, ◌++◌, refl, subst, sym, ◌∙◌}
use Rattle.std.specs.Prelude.{All, Option, Some, None, find, if◌then◌else◌, is_some, option_map, ◌||◌}
use Rattle.std.proofs.lemmas.List.Elements.{All-cons, All-head, All-nil, All-tail}
use Rattle.theory_definitions.specs.Matching.{Pair, assumed, same_pair}
use Rattle.theory_definitions.specs.Runs.{Met}
use Rattle.theory_definitions.specs.Unfinished.{Failure, Remembered, first_unassumed, meet, noted, site_of}
use Rattle.theory_definitions.specs.Remembering.{HasMet, SameMet, SameMets}
use Rattle.theory_meaning.proofs.CoversApart.{same_itself}

-- ---- the sites

abbrev IsFound : List Met → Pair → Type 0
IsFound ms a = is_some (site_of ms a) ≡ true

abbrev found : Option Met → Bool
found o = is_some (option_map (λ m. m.site) o)

found_last : (ms : List Met) (m : Met) (a : Pair) → same_pair a m.pair ≡ true → IsFound (ms ++ m ∷ []) a
found_last [] m a e = subst (λ b. found (cond b (Some m) None) ≡ true) (sym e) refl
found_last (x ∷ ms) m a e = go (same_pair a x.pair) (found_last ms m a e)
  where
    go : (b : Bool) → IsFound (ms ++ m ∷ []) a → found (cond b (Some x) (find (λ y. same_pair a y.pair) (ms ++ m ∷ []))) ≡ true
    go true k = refl
    go false k = k

found_still : (ms : List Met) (m : Met) (a : Pair) → IsFound ms a → IsFound (ms ++ m ∷ []) a
found_still [] m a h = absurd (cc h)
found_still (x ∷ ms) m a h = go (same_pair a x.pair) (found_still ms m a) h
  where
    go : (b : Bool) → (IsFound ms a → IsFound (ms ++ m ∷ []) a) → found (cond b (Some x) (find (λ y. same_pair a y.pair) ms)) ≡ true
        → found (cond b (Some x) (find (λ y. same_pair a y.pair) (ms ++ m ∷ []))) ≡ true
    go true k l = refl
    go false k l = k l

same_noted : (ms : List Met) (m : Met) → (is_some m.site.located ≡ true → IsFound ms m.pair) → noted ms m ≡ ms
same_noted ms m = go (is_some m.site.located) (is_some (site_of ms m.pair))
  where
    go : (a b : Bool) → (a ≡ true → b ≡ true) → (if a then (if b then ms else ms ++ m ∷ []) else ms) ≡ ms
    go false b h = refl
    go true true h = refl
    go true false h = absurd (cc (h refl))

found_noted : (ms : List Met) (m : Met) → is_some m.site.located ≡ true → IsFound (noted ms m) m.pair
found_noted ms m = go (is_some m.site.located) (is_some (site_of ms m.pair)) refl
  where
    go : (a b : Bool) → is_some (site_of ms m.pair) ≡ b → a ≡ true → IsFound (if a then (if b then ms else ms ++ m ∷ []) else ms) m.pair
    go true true e h = e
    go true false e h = found_last ms m m.pair (same_itself m.pair)
    go false b e h = absurd (cc h)

found_after : (ms : List Met) (m : Met) (a : Pair) → IsFound ms a → IsFound (noted ms m) a
found_after ms m a h = go (is_some m.site.located) (is_some (site_of ms m.pair))
  where
    go : (l b : Bool) → IsFound (if l then (if b then ms else ms ++ m ∷ []) else ms) a
    go false b = h
    go true true = h
    go true false = found_still ms m a h

-- ---- the first match that is not assumed

same_first : (g : Option Failure) (o : Option Bool) (f : Failure) → is_some o || is_some g ≡ true → first_unassumed g o f ≡ g
same_first (Some g) o f h = refl
same_first None (Some b) f h = refl
same_first None None f h = absurd (cc h)

first_now : (g : Option Failure) (o : Option Bool) (f : Failure) → is_some o || is_some (first_unassumed g o f) ≡ true
first_now g (Some b) f = refl
first_now (Some g) None f = refl
first_now None None f = refl

first_still : (g : Option Failure) (o o' : Option Bool) (f : Failure) → is_some o || is_some g ≡ true → is_some o || is_some (first_unassumed g o' f) ≡ true
first_still g (Some b) o' f h = refl
first_still (Some g) None o' f h = refl
first_still None None o' f h = absurd (cc h)

-- ---- a match is met

pub meet_same : (r : Remembered) (f : Failure) → HasMet r f.met → meet r f ≡ r
meet_same r f h =
    let unassumed = same_first r.unassumed (assumed r.assumptions f.met.pair) f h.0 in
    let located = same_noted r.located f.met h.1 in
    λ i. record { assumptions = r.assumptions; unassumed = unassumed i; located = located i }

pub met_now : (r : Remembered) (f : Failure) → HasMet (meet r f) f.met
met_now r f = (first_now r.unassumed (assumed r.assumptions f.met.pair) f, found_noted r.located f.met)

pub met_still : (r : Remembered) (f : Failure) (m : Met) → HasMet r m → HasMet (meet r f) m
met_still r f m h = (first_still r.unassumed (assumed r.assumptions m.pair) (assumed r.assumptions f.met.pair) f h.0, λ l. found_after r.located f.met m.pair (h.1 l))

pub same_has_met : (r : Remembered) (a b : Met) → SameMet a b → HasMet r a → HasMet r b
same_has_met r a b s h = (
  subst (λ z. is_some (assumed r.assumptions z) || is_some r.unassumed ≡ true) s.0 h.0,
  λ l. subst (λ z. IsFound r.located z) s.0 (h.1 (s.1 ∙ l)),
)

-- A property of the matches in one list holds of the same matches in another list.
pub all_same : (P : Met → Type 0) → ((a b : Met) → SameMet a b → P a → P b) → (xs ys : List Met) → SameMets xs ys → All P xs → All P ys
all_same P along [] [] s h = All-nil P
all_same P along (x ∷ xs) (y ∷ ys) s h = All-cons P y ys (along x y s.0 (All-head P x xs h)) (all_same P along xs ys s.1 (All-tail P x xs h))
all_same P along [] (y ∷ ys) s h = absurd s
all_same P along (x ∷ xs) [] s h = absurd s

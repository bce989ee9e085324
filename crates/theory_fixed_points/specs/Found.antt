-- What a solver has found so far, and the invariant that holds between any two of its steps.
use Rattle.std.specs.Prelude.{Bool, None, Option, Some, false, if◌then◌else◌, length, not, true, ℕ, ◌&&◌, ◌++◌, ◌<◌, ◌==◌, ◌||◌, ◌≡◌, ◌≤◌, ◌⊎◌}
use Rattle.theory_definitions.specs.Instance.{Place, same_place}
use Rattle.theory_fixed_points.specs.Under.{PairSet, Solving, FailsUnderEach, Stands, under}

-- The pairs in progress, the pairs that are assumed, and the verdicts that are final.
pub record Found : Type 0 where
  pub busy : PairSet
  pub assumed : PairSet
  pub known : ℕ → Place → Option Bool

-- The pair has a final yes.
abbrev pub settled : Found → PairSet
settled f i p = elim (f.known i p) [ None ↦ false | Some v ↦ v ]

-- The pair has a final no.
abbrev pub refused : Found → PairSet
refused f i p = elim (f.known i p) [ None ↦ false | Some v ↦ not v ]

-- The pair counts as yes at present.
abbrev pub accepted_now : Found → PairSet
accepted_now f i p = f.busy i p || (f.assumed i p || settled f i p)

-- A set that contains all pairs that count as yes, and no pair that was refused.
pub record Between (f : Found) (inside : PairSet) : Type 0 where
  pub above : (i : ℕ) (p : Place) → accepted_now f i p ≡ true → inside i p ≡ true
  pub below : (i : ℕ) (p : Place) → refused f i p ≡ true → inside i p ≡ false

-- The invariant for monotone keywords. A pair that is in progress or assumed is not final. Each
-- assumed pair holds under the pairs that count as yes, and some pair is in progress at its place.
-- The pairs with a final yes stand by themselves. Each refused pair fails under every set that
-- stands by itself.
pub record IsSound {K R : Type 0} (w : Solving K R) (f : Found) : Type 0 where
  pub apart : (i : ℕ) (p : Place) → (f.busy i p || f.assumed i p) ≡ true → f.known i p ≡ None
  pub held : (i : ℕ) (p : Place) → i < w.count → f.assumed i p ≡ true → under w (accepted_now f) i p ≡ true
  pub placed : (i : ℕ) (p : Place) → f.assumed i p ≡ true → (j : ℕ) × (f.busy j p ≡ true)
  pub stands : Stands w (settled f)
  pub fails : (i : ℕ) (p : Place) → refused f i p ≡ true → (i < w.count) × FailsUnderEach w i p

-- What a step at a place keeps and adds: the pairs in progress stay the same, final verdicts stay
-- final, and new assumptions are at that place or below it.
pub record Grows (q : Place) (old new : Found) : Type 0 where
  pub busy : (i : ℕ) (p : Place) → new.busy i p ≡ old.busy i p
  pub known : (i : ℕ) (p : Place) (v : Bool) → old.known i p ≡ Some v → new.known i p ≡ Some v
  pub assumed : (i : ℕ) (p : Place) → old.assumed i p ≡ true → new.assumed i p ≡ true
  pub here : (i : ℕ) (p : Place) → new.assumed i p ≡ true → (old.assumed i p ≡ true) ⊎ ((r : Place) × (p ≡ q ++ r))

-- A number says this at a place, whatever the pairs say that are not known yet.
abbrev pub SaysUnder : {K R : Type 0} → Solving K R → Found → ℕ → Place → Bool → Type 0
SaysUnder w f i p b = (inside : PairSet) → Between f inside → under w inside i p ≡ b

-- ---- the steps of a pair

-- The two pairs are the same.
abbrev pub is_this : ℕ → Place → ℕ → Place → Bool
is_this i p j q = (i == j) && same_place p q

-- The set with one more pair.
abbrev pub with_pair : PairSet → ℕ → Place → PairSet
with_pair inside i p j q = is_this i p j q || inside j q

-- The pair is begun.
abbrev pub entered : Found → ℕ → Place → Found
entered f i p = record f { busy = with_pair f.busy i p }

-- After a no: the pair is refused, and what was assumed since it was begun is dropped.
abbrev pub after_no : Found → Found → ℕ → Place → Found
after_no old f i p = record { busy = old.busy; assumed = old.assumed; known = λ j q. if is_this i p j q then Some false else f.known j q }

-- After a provisional yes, if another pair is in progress at the same place: the pair is assumed.
abbrev pub after_yes : Found → Found → ℕ → Place → Found
after_yes old f i p = record { busy = old.busy; assumed = with_pair f.assumed i p; known = f.known }

-- After a yes of the only pair in progress at its place: the yes is final, and so is every pair
-- that was assumed since this one was begun.
abbrev pub after_yes_alone : Found → Found → ℕ → Place → Found
after_yes_alone old f i p = record {
  busy = old.busy;
  assumed = old.assumed;
  known = λ j q. if is_this i p j q || (f.assumed j q && not (old.assumed j q)) then Some true else f.known j q;
}

-- After a yes that depends on no provisional answer: the yes is final, and what was assumed since
-- the pair was begun stays assumed.
abbrev pub after_yes_free : Found → Found → ℕ → Place → Found
after_yes_free old f i p = record { busy = old.busy; assumed = f.assumed; known = λ j q. if is_this i p j q then Some true else f.known j q }

-- No pair in progress is deeper than this place.
abbrev pub NoneDeeper : Place → Found → Type 0
NoneDeeper p f = (i : ℕ) (q : Place) → f.busy i q ≡ true → length q ≤ length p

-- No pair is in progress at this place.
abbrev pub NoneAt : Place → Found → Type 0
NoneAt p f = (i : ℕ) → f.busy i p ≡ false

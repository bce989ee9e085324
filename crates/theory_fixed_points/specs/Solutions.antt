-- The largest set of pairs of a reached target and a place that stands by itself: each pair of the
-- set accepts, given that exactly the pairs of the set accept. This is stated with the definitions
-- of the plain meaning, but without a depth to which references are followed.
use Rattle.std.specs.Prelude.{All, Bool, List, [], flat_map, true, ℕ, ◌↔◌, ◌∷◌, ◌≡◌}
use Rattle.serde_json.specs.Data.{Data}
use Rattle.theory_definitions.specs.Instance.{Place}
use Rattle.theory_definitions.specs.Matching.{Completion}
use Rattle.theory_definitions.specs.Parts.{Parts}
use Rattle.theory_definitions.specs.Plan.{Form, Key, Plan, Target, always, keyword, never, plan, reference, these}
use Rattle.theory_definitions.specs.Cover.{Call, Decides, Sense}
use Rattle.theory_meaning.specs.Greatest.{IsMonotone, accepts_by}
use Rattle.theory_meaning.specs.Reach.{Reached}

-- The keywords of one part of a plan.
abbrev pub form_words : {K : Type 0} → Form K → List K
form_words (keyword m requests absorbed) = m ∷ []
form_words (reference kind text) = []

-- The keywords of a plan.
abbrev pub plan_words : {K : Type 0} → Plan K → List K
plan_words always = []
plan_words never = []
plan_words (these xs) = flat_map (λ x. form_words x.form) xs

module _ {S K R : Type 0} (w : Parts S K R) (root : Key S) where
  -- Each keyword of a key that the root reaches is monotone.
  abbrev pub EachIsMonotone : Type 0
  EachIsMonotone = (k : Key S) → Reached w root k → All (IsMonotone w.keywords) (plan_words (plan w k))

  module _ (instance : Data) where
    module _ (c : Completion) where
      -- ---- sets of pairs; keys that differ only in location, base or start have the same target
      -- and count as one

      -- A set of pairs of a target and a place.
      abbrev pub Pairs : Type 0
      Pairs = Target S → Place → Bool

      -- Each pair of the set with a reached target accepts, given that exactly the pairs of the set
      -- accept, whichever key reaches the target.
      abbrev pub StandsByItself : Pairs → Type 0
      StandsByItself accepts = (k : Key S) → Reached w root k → (p : Place) → accepts k.target p ≡ true → accepts_by w instance c (λ l q. accepts l.target q) k p ≡ true

      -- The pair is in the largest set, which means that some set that stands by itself contains
      -- it.
      abbrev pub AcceptsGreatest : Key S → Place → Type 0
      AcceptsGreatest k p = (accepts : Pairs) × StandsByItself accepts × (accepts k.target p ≡ true)

      -- The set stands by itself, and contains each pair of a reached target that some set that
      -- stands by itself contains.
      pub record IsLargest (accepts : Pairs) : Type 0 where
        pub stands : StandsByItself accepts
        pub largest : (others : Pairs) → StandsByItself others → (k : Key S) → Reached w root k → (p : Place) → others k.target p ≡ true → accepts k.target p ≡ true

    -- ---- the root

    -- The largest set of every completion accepts the root at the root place.
    abbrev pub AcceptsEach : Type 0
    AcceptsEach = (c : Completion) → AcceptsGreatest c root []

    -- If the call decides within its limit, its answer is yes if and only if all these sets accept.
    abbrev pub SaysGreatest : Sense → ℕ → Call → Type 0 → Type 0
    SaysGreatest v limit call is_yes = Decides v limit call → is_yes ↔ AcceptsEach

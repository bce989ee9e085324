-- If no question returns, the plain meaning is that of questions to a bounded depth, in which each
-- child is asked by its key alone.
use Rattle.std.proofs.Common.{◌≡◌, ℕ, zero, suc, ◌+◌, ◌*◌, ◌≤◌, Bool, true, false, List, [], ◌∷◌, ◌++◌, length, refl, sym, ◌∙◌, arith}
use Rattle.std.specs.Prelude.{Contains}
use Rattle.std.specs.List.{list_any}
use Rattle.serde_json.specs.Data.{Data}
use Rattle.theory_definitions.specs.Instance.{Text, Place, same_place, places}
use Rattle.theory_definitions.specs.Parts.{Parts}
use Rattle.theory_definitions.specs.Plan.{Target, Key, Edge, height, same_target}
use Rattle.theory_definitions.specs.Meaning.{within, unfolded}
use Rattle.theory_meaning.specs.Returns.{Asked, questions, LeadsTo, Return}
use Rattle.theory_meaning.specs.Numbered.{SubschemasInside}
use Rattle.theory_meaning.proofs.Questions.{Asks, asked_in}
use Rattle.theory_meaning.proofs.SameOutcome.{asks_edge}
use Rattle.theory_meaning.proofs.Trails.{Trail, begins, goes, grid_short}

module _ {S K R : Type 0} (w : Parts S K R) (instance : Data) {X : Type 0} (last : X) (node : Key S → Text → Place → (Edge S → Place → X) → X) where
  -- With questions at most n deep, for subschemas and references alike.
  abbrev pub in_steps : ℕ → Key S → Text → Place → X
  in_steps zero k path p = last
  in_steps (suc n) k path p = node k path p (λ edge q. in_steps n edge.key (path ++ edge.path) q)

  module _ (inside : SubschemasInside w)
      (local : (k : Key S) (path : Text) (p : Place) (f g : Edge S → Place → X) → ((edge : Edge S) (q : Place) → Asks w instance k p edge q → f edge q ≡ g edge q) → node k path p f ≡ node k path p g)
      (root : Asked w instance) (none : ¬ (Return w instance root)) (targets : List (Target S))
      (at_targets : (a : Asked w instance) → LeadsTo w instance root a → list_any (same_target w a.key.target) targets ≡ true)
      (at_places : (a : Asked w instance) → LeadsTo w instance root a → list_any (same_place a.place) (places instance) ≡ true)
      (one_target : (a b k : Target S) → same_target w a k ≡ true → same_target w b k ≡ true → same_target w a b ≡ true)
      (one_place : (a b p : Place) → same_place a p ≡ true → same_place b p ≡ true → same_place a b ≡ true) where
    -- The target of a reference, with n more references.
    over : ℕ → Key S → Text → Place → X
    over zero k path p = last
    over (suc n) k path p = unfolded w instance last node n k path p

    unfolded_is : (n : ℕ) (k : Key S) (path : Text) (p : Place) → unfolded w instance last node n k path p ≡ within w instance last node (over n) (height w k) k path p
    unfolding over
    unfolded_is zero k path p = refl
    unfolded_is (suc n) k path p = refl

    by_kind : (b : Bool) (x y z : X) → (b ≡ true → x ≡ y) → (b ≡ false → x ≡ z) → ◌≡◌ {A = X} x (elim b [ true ↦ y | false ↦ z ])
    by_kind true x y z f g = f refl
    by_kind false x y z f g = g refl

    -- This number of questions is sufficient for those that are left, on the path to here.
    Enough : ℕ → List (Asked w instance) → Type 0
    Enough n seen = length targets * length (places instance) ≤ length seen + n

    Steps : ℕ → Type 0
    Steps m = (n h : ℕ) (seen : List (Asked w instance)) (a : Asked w instance) → Trail w instance root seen a → Enough m seen → Enough n seen → height w a.key ≤ h
        → in_steps m a.key a.path a.place ≡ within w instance last node (over n) h a.key a.path a.place

    reference_step : (m : ℕ) → Steps m → (n : ℕ) (seen : List (Asked w instance)) (a c : Asked w instance) → Trail w instance root seen a → Contains (questions w instance a) c
        → Enough m (a ∷ seen) → Enough n seen → in_steps m c.key c.path c.place ≡ over n c.key c.path c.place
    unfolding Steps Enough over
    reference_step m ih zero seen a c t q low high = let l = grid_short w instance root none targets at_targets at_places one_target one_place t in absurd (omega arith)
    reference_step m ih (suc n) seen a c t q low high = ih n (height w c.key) (a ∷ seen) c (goes t q) low (omega arith) (omega arith) ∙ sym (unfolded_is n c.key c.path c.place)

    steps : (m : ℕ) → Steps m
    unfolding Steps Enough
    steps zero n h seen a t low high tall = let l = grid_short w instance root none targets at_targets at_places one_target one_place t in absurd (omega arith)
    steps (suc m) n zero seen a t low high tall = absurd (omega arith)
    steps (suc m) n (suc h) seen a t low high tall = local a.key a.path a.place _ _ (λ edge q asks.
        let c : Asked w instance = record { key = edge.key; path = a.path ++ edge.path; place = q } in
        let on : Contains (questions w instance a) c = asked_in w instance a edge q asks in
        by_kind edge.is_reference _ _ _
        (λ is. reference_step m (steps m) n seen a c t on (omega arith) high)
        (λ is. let f = inside a.key edge (asks_edge w instance a.key a.place edge q asks) is in steps m n h (a ∷ seen) c (goes t on) (omega arith) (omega arith) (omega arith)))

    -- A number of references and a number of questions yield the same meaning, if both are
    -- sufficient.
    pub steps_unfold : (m n : ℕ) → length targets * length (places instance) ≤ m → length targets * length (places instance) ≤ n
        → in_steps m root.key root.path root.place ≡ unfolded w instance last node n root.key root.path root.place
    unfolding Steps Enough
    steps_unfold m n low high = steps m n (height w root.key) [] root begins (omega arith) (omega arith) (omega arith) ∙ sym (unfolded_is n root.key root.path root.place)

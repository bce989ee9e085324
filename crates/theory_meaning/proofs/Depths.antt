-- A sufficient number of references.
use Rattle.std.proofs.Common.{◌≡◌, ℕ, zero, suc, ◌+◌, ◌*◌, ◌<◌, ◌≤◌, true, List, [], ◌∷◌, length, refl, arith}
use Rattle.std.specs.Prelude.{Contains}
use Rattle.std.specs.List.{list_any}
use Rattle.serde_json.specs.Data.{Data}
use Rattle.theory_definitions.specs.Instance.{Place, same_place, places}
use Rattle.theory_definitions.specs.Parts.{Parts}
use Rattle.theory_definitions.specs.Plan.{Target, same_target}
use Rattle.theory_definitions.specs.Meaning.{subject}
use Rattle.theory_meaning.specs.Returns.{Asked, questions, LeadsTo, Return}
use Rattle.theory_definitions.specs.Guarded.{Nodes}
use Rattle.theory_meaning.specs.Numbered.{Numbers, left}
use Rattle.theory_meaning.proofs.Trails.{Trail, begins, goes, grid_short}

module _ {S K R : Type 0} (w : Parts S K R) (instance : Data) (keys : Numbers S) (nodes : Nodes K) where
  pub ByMeasure : ℕ → ℕ → List ℕ → Asked w instance → Type 0
  ByMeasure n i busy a = left nodes (length keys) i (subject w instance a.place) busy ≤ n

  pub measure_on : (n i j : ℕ) (busy busy' : List ℕ) (a c : Asked w instance) → Contains (questions w instance a) c → left nodes (length keys) j (subject w instance c.place) busy' < left nodes (length keys) i (subject w instance a.place) busy
      → ByMeasure n i busy a → ByMeasure n j busy' c
  unfolding ByMeasure
  measure_on n i j busy busy' a c q falls h = omega arith

  pub measure_less : (n i j : ℕ) (busy busy' : List ℕ) (a c : Asked w instance) → Contains (questions w instance a) c → left nodes (length keys) j (subject w instance c.place) busy' < left nodes (length keys) i (subject w instance a.place) busy
      → ByMeasure n i busy a → (n' : ℕ) × (n ≡ suc n') × ByMeasure n' j busy' c
  unfolding ByMeasure
  measure_less zero i j busy busy' a c q falls h = absurd (omega arith)
  measure_less (suc n) i j busy busy' a c q falls h = (n, refl, omega arith)

  pub measure_first : (n i : ℕ) (root : Asked w instance) → left nodes (length keys) i (subject w instance root.place) [] ≤ n → ByMeasure n i [] root
  unfolding ByMeasure
  measure_first n i root h = h

  module _ (root : Asked w instance) (none : ¬ (Return w instance root)) (reached : List (Target S))
      (at_targets : (a : Asked w instance) → LeadsTo w instance root a → list_any (same_target w a.key.target) reached ≡ true)
      (at_places : (a : Asked w instance) → LeadsTo w instance root a → list_any (same_place a.place) (places instance) ≡ true)
      (one_target : (a b k : Target S) → same_target w a k ≡ true → same_target w b k ≡ true → same_target w a b ≡ true)
      (one_place : (a b p : Place) → same_place a p ≡ true → same_place b p ≡ true → same_place a b ≡ true) where
    pub ByTrail : ℕ → ℕ → List ℕ → Asked w instance → Type 0
    ByTrail n i busy a = (seen : List (Asked w instance)) × Trail w instance root seen a × (length reached * length (places instance) ≤ length seen + n)

    pub trail_on : (n i j : ℕ) (busy busy' : List ℕ) (a c : Asked w instance) → Contains (questions w instance a) c → left nodes (length keys) j (subject w instance c.place) busy' < left nodes (length keys) i (subject w instance a.place) busy
        → ByTrail n i busy a → ByTrail n j busy' c
    unfolding ByTrail
    trail_on n i j busy busy' a c q falls (seen, t, h) = (a ∷ seen, goes t q, omega arith)

    pub trail_less : (n i j : ℕ) (busy busy' : List ℕ) (a c : Asked w instance) → Contains (questions w instance a) c → left nodes (length keys) j (subject w instance c.place) busy' < left nodes (length keys) i (subject w instance a.place) busy
        → ByTrail n i busy a → (n' : ℕ) × (n ≡ suc n') × ByTrail n' j busy' c
    unfolding ByTrail
    trail_less zero i j busy busy' a c q falls (seen, t, h) = let l = grid_short w instance root none reached at_targets at_places one_target one_place t in absurd (omega arith)
    trail_less (suc n) i j busy busy' a c q falls (seen, t, h) = (n, refl, (a ∷ seen, goes t q, omega arith))

    pub trail_first : (n i : ℕ) → length reached * length (places instance) ≤ n → ByTrail n i [] root
    unfolding ByTrail
    trail_first n i h = ([], begins, omega arith)

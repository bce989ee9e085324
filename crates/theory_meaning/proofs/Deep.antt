-- If no chain of questions returns, the number of targets times the number of places is a
-- sufficient depth.
use Rattle.std.proofs.Common.{◌≡◌, ℕ, zero, suc, ◌+◌, ◌≤◌, ◌<◌, List, length, true, arith}
use Rattle.serde_json.specs.Data.{Data}
use Rattle.theory_definitions.specs.Instance.{Text, Place}
use Rattle.theory_definitions.specs.Parts.{Parts}
use Rattle.theory_definitions.specs.Plan.{Key, Edge}
use Rattle.theory_meaning.specs.Returns.{Asked, LeadsTo, Return, same_question}
use Rattle.theory_definitions.specs.Meaning.{unfolded}
use Rattle.theory_meaning.proofs.Stable as stable
use Rattle.theory_meaning.proofs.Questions.{Asks, asked_in}
use Rattle.theory_meaning.proofs.Trails.{Trail, begins, goes, short}

module _ {S K R : Type 0} (w : Parts S K R) (instance : Data) {X : Type 0} (last : X) (node : Key S → Text → Place → (Edge S → Place → X) → X)
    (local : (k : Key S) (path : Text) (p : Place) (f g : Edge S → Place → X) → ((edge : Edge S) (q : Place) → Asks w instance k p edge q → f edge q ≡ g edge q) → node k path p f ≡ node k path p g)
    (root : Asked w instance) (none : ¬ (Return w instance root))
    -- A number below `bound` for each question that the root leads to, equal for two questions with
    -- the same target at the same place.
    (bound : ℕ) (code : Asked w instance → ℕ)
    (below : (a : Asked w instance) → LeadsTo w instance root a → code a < bound)
    (tells : (a b : Asked w instance) → LeadsTo w instance root a → LeadsTo w instance root b → code b ≡ code a → same_question w instance a b ≡ true) where
  Flat : ℕ → Key S → Place → Type 0
  Flat = stable.Shallow w instance last node (Asks w instance) local

  shallow : (b : ℕ) {seen : List (Asked w instance)} {a : Asked w instance} → Trail w instance root seen a → length seen + b ≡ bound → Flat b a.key a.place
  unfolding Flat
  shallow zero t e = let h = short w instance root none bound code below tells t in absurd (omega arith)
  shallow (suc b) {seen} {a} t e = stable.one_more
      (λ edge q h is. shallow b (goes t (asked_in w instance a edge q h)) (omega arith))
      (λ edge q h is. stable.deeper w instance last node (Asks w instance) local (shallow b (goes t (asked_in w instance a edge q h)) (omega arith)))

  -- Every depth from the bound on yields the same.
  pub no_return_stable : (m : ℕ) → bound ≤ m → unfolded w instance last node m root.key root.path root.place ≡ unfolded w instance last node bound root.key root.path root.place
  unfolding Flat
  no_return_stable m h = stable.stable w instance last node (Asks w instance) local bound m h root.key root.path root.place (shallow bound begins (omega arith))

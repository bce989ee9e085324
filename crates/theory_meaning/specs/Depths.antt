-- The depth to which references have to be followed: if no question returns, a depth larger than a
-- sufficient one changes nothing.
use Rattle.std.specs.Prelude.{Decides, List, [], ℕ, ◌≡◌, ◌≤◌}
use Rattle.serde_json.specs.Data.{Data}
use Rattle.theory_definitions.specs.Matching.{Assumptions, Completion}
use Rattle.theory_definitions.specs.Parts.{Parts}
use Rattle.theory_definitions.specs.Plan.{Key}
use Rattle.theory_definitions.specs.Meaning.{unfold_}
use Rattle.theory_definitions.specs.Units.{plain_units}
use Rattle.theory_meaning.specs.Returns.{Return}
use Rattle.theory_definitions.specs.Runs.{run}
use Rattle.theory_definitions.specs.Cover.{plain}
use Rattle.theory_definitions.specs.Laws.{EachKeeps}
use Rattle.theory_meaning.specs.Reach.{IsReach, deep_enough}
use Rattle.theory_meaning.specs.Headline.{at_root}
use Rattle.theory_meaning.specs.Numbered.{MakersAskBelow, ValuesInside}

module _ {S K R : Type 0} (w : Parts S K R) (instance : Data) (root : Key S) where
  -- References followed m deep and n deep yield the same results from the root.
  pub record SameDepths (m n : ℕ) : Type 0 where
    pub says : (c : Completion) → unfold_ w instance c m root [] [] ≡ unfold_ w instance c n root [] []
    pub units : (c : Completion) → plain_units w instance c m root [] [] ≡ plain_units w instance c n root [] []
    pub runs : (as' : Assumptions) → run w instance as' m root [] [] ≡ run w instance as' n root [] []
    pub means : plain w instance m root ≡ plain w instance n root

-- So there is one plain meaning, which every sufficient depth yields.
abbrev pub DepthsAgree : {S K R : Type 0} → Parts S K R → Type 0
DepthsAgree {S} w = EachKeeps w.keywords → ((a b : S) → Decides (w.resolver.same_state a b) (a ≡ b))
    → (instance : Data) (root : Key S) → ¬ (Return w instance (at_root w root instance)) → (keys : List (Key S)) → IsReach w root keys
    → (m n : ℕ) → deep_enough w keys instance ≤ m → deep_enough w keys instance ≤ n → SameDepths w instance root m n

-- A fact about an instance, a root and a depth, under the conditions on which a plain meaning is
-- defined: no question returns from the root on, and the depth is sufficient. Otherwise a subschema
-- and a reference with the same key may be cut off at different depths and have different answers,
-- although a keyword may take one for the other.
abbrev pub AtEachDepth : {S K R : Type 0} → Parts S K R → (Data → Key S → ℕ → Type 0) → Type 0
AtEachDepth {S} w fact = EachKeeps w.keywords → ValuesInside w → MakersAskBelow w.table → ((a b : S) → Decides (w.resolver.same_state a b) (a ≡ b))
    → (instance : Data) (root : Key S) → ¬ (Return w instance (at_root w root instance)) → (keys : List (Key S)) → IsReach w root keys
    → (n : ℕ) → deep_enough w keys instance ≤ n → fact instance root n

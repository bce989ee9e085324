-- When a verdict that a run remembers is right: it is what the node says at the place while only
-- the node's own pair is in progress there, and every unfinished match that the node's run meets is
-- known.
use Rattle.std.specs.Prelude.{ℕ, ◌≡◌, ◌<◌, ◌++◌, ◌∷◌, Bool, Some, []}
use Rattle.serde_json.specs.Data.{Data}
use Rattle.theory_definitions.specs.Instance.{Place, Step, Subject, Text, after_step}
use Rattle.theory_definitions.specs.Matching.{Assumptions, Matcher}
use Rattle.theory_definitions.specs.Keywords.{Keywords, for_verdict}
use Rattle.theory_definitions.specs.Guarded.{Nodes}
use Rattle.theory_meaning.specs.Numbered.{left}
use Rattle.theory_definitions.specs.Unfinished.{Remembered}
use Rattle.schema_run_context.specs.Matches.{Settling, settling}
use Rattle.theory_runs.specs.NodeMeets.{deep_run, reading}
use Rattle.schema_run_steps.specs.NodeRuns.{Reading, Reads, deep}
use Rattle.schema_run_context.specs.Progress.{Verdicts}
use Rattle.theory_runs.specs.Remembering.{KnowsEach}
use Rattle.schema_run_context.specs.Verdicts.{verdict_of}

-- The value or the name at each place.
abbrev pub Layout : Type 0
Layout = Place → Subject

-- The layout has the subject at the place, and below each of its subjects it has what a step from
-- that subject leads to.
pub record LaysOut (layout : Layout) (p : Place) (s : Subject) : Type 0 where
  pub here : layout p ≡ s
  pub below : (q : Place) (step : Step) (t : Subject) → after_step step (layout q) ≡ Some t → layout (q ++ step ∷ []) ≡ t

module _ {K R : Type 0} (words : Bool → Keywords K R) (is_whole : K → Bool) (nodes : Nodes K) (count : ℕ) (matcher : Matcher) (as' : Assumptions) (r : Remembered) where
  -- The outcomes of unfinished matches under these assumptions.
  abbrev with_assumed : Settling
  with_assumed = settling matcher as'

  -- The verdict is right for a subject at a place, with each evaluation path.
  pub record IsRightVerdict (i : ℕ) (p : Place) (s : Subject) (v : Bool) : Type 0 where
    pub said : (x : Reading) → Reads is_whole nodes count with_assumed p s x → left nodes count i s (i ∷ []) < x.depth → (path : Text)
        → (deep words nodes x i path p (i ∷ [])).verdict ≡ v
    pub known : (texts : Bool) (root : Data) (depth : ℕ) → Reads is_whole nodes count with_assumed p s (reading with_assumed texts root depth) → left nodes count i s (i ∷ []) < depth → (path : Text)
        → KnowsEach matcher r ((deep_run words nodes with_assumed texts root depth i path p (i ∷ [])).met for_verdict)

  -- Each remembered verdict is right for the subject at its place.
  abbrev pub AreRight : Layout → Verdicts → Type 0
  AreRight layout vs = (i : ℕ) (p : Place) (v : Bool) → verdict_of i p vs ≡ Some v → IsRightVerdict i p (layout p) v

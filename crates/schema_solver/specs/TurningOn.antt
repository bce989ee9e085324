-- A keyword's run for the verdict, answered by a solver: how it has begun, and its state between
-- two turns.
use Rattle.std.specs.Prelude.{Bool, List, false, ℕ, ◌<◌, ◌≡◌}
use Rattle.serde_json.specs.Data.{Data}
use Rattle.theory_definitions.specs.Instance.{Place, Subject}
use Rattle.theory_definitions.specs.Keywords.{Answer, Marked, Reply, for_verdict}
use Rattle.theory_definitions.specs.Remembering.{AlwaysAsksVerdict}
use Rattle.theory_definitions.specs.Turns.{Standing}
use Rattle.theory_definitions.specs.Guarded.{Children}
use Rattle.schema_traits.specs.KeywordViews.{answer_of}
use Rattle.schema_traits.specs.declared.keyword.Answer as code_answer
use Rattle.theory_fixed_points.specs.Turning.{TurnsBy}
use Rattle.schema_solver_state.specs.Contexts.{Solver, found_of}
use Rattle.schema_solver.specs.Solving.{InEach, Setting}

-- the run of the keyword on a subject has begun, and its answer is fresh
abbrev pub HasBegun : {K R : Type 0} → Setting K (R × Answer) → Subject → K → R → code_answer.Answer → Type 0
HasBegun g s m run a = (texts : Bool) → (g.words texts).begin m s for_verdict ≡ (run, answer_of texts a)

module _ {K R : Type 0} (g : Setting K R) (m : K) where
  -- in its remaining turns the run requests verdicts, whatever the replies are
  abbrev pub AsksOn : Subject → ℕ → R → Reply → Type 0
  AsksOn s turns r reply = (n : ℕ) × (turns < n) × AlwaysAsksVerdict (g.words false) m s n r reply

  -- in each reading the run fits, and ends in the right answer, for all answers that agree with the
  -- replies so far; a "valid" among these may be provisional only if `leans` is set
  abbrev pub TurnsOn : Data → Place → (Bool → Standing R → Answer) → (Bool → Standing R → Type 0) → Children → Solver → Bool → List Marked → (Bool → R) → (Bool → Reply) → Type 0
  TurnsOn root p end_of fits es c leans marks r reply = InEach g root (λ texts w. TurnsBy w p (found_of c) leans m (end_of texts) (fits texts) es marks (r texts) (reply texts))

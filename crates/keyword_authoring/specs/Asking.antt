-- The next question of a run, by its position.
use Rattle.std.specs.Prelude.{◌≡◌, List, None, Option, Some, ℕ}
use Rattle.theory_definitions.specs.Keywords.{Question, Reply}
use Rattle.schema_traits.specs.declared.keyword.Mode.{Mode}
use Rattle.keyword_authoring.specs.declared.run.Stage.{Stage}
use Rattle.keyword_authoring.specs.declared.run.Stage.TheVariants.{Ended}
use Rattle.keyword_authoring.specs.Somes.{question_of, some_from}
use Rattle.keyword_authoring.specs.Ways.{asked, nth, passes_on, passes_some, stage_after, stage_at, stage_some, step_at}

-- the question at the position, if there is a position
abbrev pub nth_at : List Question → Option ℕ → Option Question
nth_at qs None = None
nth_at qs (Some i) = nth i qs

-- the stage of a run that asks the question at the position, or has ended if there is none
abbrev pub stage_of : List Question → Option ℕ → Stage
stage_of qs None = Ended
stage_of qs (Some i) = stage_at i (nth i qs)

-- the next turn's question is the one at the position
pub record IsNext (qs : List Question) (stage : Stage) (reply : Reply) (place : Option ℕ) : Type 0 where
  pub stage_is : (m : Mode) → stage_after (passes_on qs) m stage reply ≡ stage_of qs place
  pub step_is : (m : Mode) → step_at (passes_on qs) m stage reply ≡ asked m (nth_at qs place)

-- the first question that is present from a number on, if there is a number
abbrev pub some_at : List (Option Question) → Option ℕ → Option (ℕ × Question)
some_at os None = None
some_at os (Some i) = some_from i os

-- the next turn's question is the first that is present from the number on
pub record IsNextFrom (os : List (Option Question)) (stage : Stage) (reply : Reply) (start : Option ℕ) : Type 0 where
  pub stage_is : (m : Mode) → stage_after (passes_some os) m stage reply ≡ stage_some (some_at os start)
  pub step_is : (m : Mode) → step_at (passes_some os) m stage reply ≡ asked m (question_of (some_at os start))

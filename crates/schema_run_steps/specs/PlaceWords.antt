-- The place and the path of a question, and what is below it, by the steps of the code.
use Rattle.std.specs.Prelude.{List, MatchOption, Option, Some, String, map, option_map, string_bytes, unwrap_or, ◌++◌, ◌≡◌}
use Rattle.std.specs.declared.alloc.Global.{Global}
use Rattle.theory_definitions.specs.Instance.{Place, Subject, Text, after_step, subject_from}
use Rattle.theory_definitions.specs.Keywords.{down, here}
use Rattle.theory_definitions.specs.Laws.{IsPresent}
use Rattle.theory_definitions.specs.Pointer.{pointer_to}
use Rattle.schema_reports.specs.InstanceViews.{step_of, subject_of}
use Rattle.schema_reports.specs.declared.instance.Instance.{Instance}
use Rattle.schema_reports.specs.declared.instance.InstanceStep.{InstanceStep}
use Rattle.schema_traits.specs.KeywordViews.{below_of}
use Rattle.schema_traits.specs.declared.keyword.Below.{Below}
use Rattle.schema_run_context.specs.EvaluationPaths.{path_of}
use Rattle.schema_run_steps.specs.EvaluationPlaces.{steps_to}
use Rattle.schema_run_steps.specs.declared.evaluation_place.EvaluationPlace.{EvaluationPlace}
use Rattle.schema_run_steps.specs.declared.question.Question.{Question}

-- the subject that a step leads to inside an instance
abbrev pub subject_after : InstanceStep → Instance → Option Subject
subject_after step i = after_step (step_of step) (subject_of i)

-- the steps lead to something inside an instance
abbrev pub HasSteps : Instance → List InstanceStep → Type 0
HasSteps i steps = IsPresent (subject_of i) (map step_of steps)

-- what is some steps below an instance, if the steps lead to something there
abbrev pub IsBelow : Instance → List InstanceStep → Instance → Type 0
IsBelow i steps inner = HasSteps i steps → subject_from (map step_of steps) (subject_of i) ≡ Some (subject_of inner)

-- the instance that a question is about below another one, with the step to it; or none, if it is
-- about that one itself
abbrev pub LeadsBelow : Instance → Below → Option (Instance × InstanceStep) → Type 0
LeadsBelow i below found = MatchOption found (below_of below ≡ here)
    (λ r. (below_of below ≡ down (step_of r.1)) × (subject_after r.1 i ≡ Some (subject_of r.0)))

-- the place some steps below another one
abbrev pub place_under : EvaluationPlace → List InstanceStep → Place
place_under p steps = steps_to p ++ map step_of steps

-- the path that led to a question, and (below) the pointer to its place
abbrev pub path_here : Question → Text
path_here q = path_of q.path.now

abbrev pub pointer_here : Question → Text
pointer_here q = pointer_to (steps_to q.place.now)

-- the name with which the path of an error begins: that of the absorbed keyword, or else the
-- keyword's own
abbrev pub name_from : Option (String Global) → Text → Text
name_from absorbed name = unwrap_or (option_map string_bytes absorbed) name

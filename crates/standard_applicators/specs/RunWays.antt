-- How runs evaluate an instance: by which way, and by which course.
use Rattle.std.specs.Prelude.{Bool, List, Option, String, codes, map, min, string_bytes, ℕ, ◌-◌, ◌≡◌}
use Rattle.std.specs.declared.alloc.Global.{Global}
use Rattle.theory_definitions.specs.Instance.{Text}
use Rattle.theory_definitions.specs.Keywords.{Question}
use Rattle.schema_reports.specs.InstanceViews.{subject_of}
use Rattle.schema_reports.specs.declared.instance.Instance.{Instance}
use Rattle.schema_traits.specs.KeywordViews.{answer_of, reply_of, turn_of}
use Rattle.schema_traits.specs.declared.keyword.Answer.{Answer}
use Rattle.schema_traits.specs.declared.keyword.Reply.{Reply}
use Rattle.schema_traits.specs.declared.keyword.Step.{Step}
use Rattle.keyword_authoring.specs.Items.{child_at_item, each_from, first_at_item, item_count}
use Rattle.keyword_authoring.specs.Ways.{Way, passes_on}
use Rattle.keyword_authoring.specs.declared.run.Progress.{Progress}
use Rattle.standard_applicators.specs.Courses.{Course, course_step, course_turn, spoken_course, tells_first}
use Rattle.standard_applicators.specs.Dependents.{dependents_from}
use Rattle.standard_applicators.specs.Wanting.{missing_texts}

-- Each child is evaluated at the item of its number.
abbrev pub at_listed : ℕ → Instance → Way
at_listed children instance = passes_on (each_from child_at_item 0 (min children (item_count (subject_of instance))))

-- The only child is evaluated at each item after the first `before`.
abbrev pub at_later : ℕ → Instance → Way
at_later before instance = passes_on (each_from first_at_item before (item_count (subject_of instance) - before))

-- for each name, the question that is asked if the instance has the member of that name
abbrev pub dependents_asked : List (String Global) → Instance → List (Option Question)
dependents_asked names instance = dependents_from 0 (map string_bytes names) (subject_of instance)

-- ---- courses

-- The errors of unmet wants are reported first, and then the dependents are evaluated.
abbrev pub dependencies_course : List (Text × Text) → List (String Global) → Instance → Course
dependencies_course wants names instance = tells_first (codes "dependencies") (missing_texts wants (subject_of instance)) (dependents_asked names instance)

-- the run and the answer after a turn by a course, whether texts are claimed or not
abbrev pub TurnsCourse : Course → Progress → Answer → Reply → Progress → Answer → Type 0
TurnsCourse course run old reply run' new = (texts : Bool)
    → course_turn (spoken_course texts course) (run, answer_of texts old) (reply_of texts reply) ≡ (run', answer_of texts new)

-- the step of a turn by a course
abbrev pub StepsCourse : Course → Progress → Answer → Reply → Step → Type 0
StepsCourse course run old reply step = (texts : Bool)
    → course_step (spoken_course texts course) (run, answer_of texts old) (reply_of texts reply) ≡ turn_of step

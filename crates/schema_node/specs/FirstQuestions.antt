-- The question that a run begins with, as data.
use Rattle.theory_definitions.specs.Instance.{Place, Text}
use Rattle.schema_reports.specs.InstanceViews.{subject_of}
use Rattle.schema_reports.specs.declared.instance.Instance.{Instance}
use Rattle.schema_traits.specs.KeywordViews.{mode_of}
use Rattle.schema_run_steps.specs.Askings.{Asking}
use Rattle.theory_runs.specs.UnitStates.{evaluating}
use Rattle.schema_node.specs.declared.node.runs.FirstQuestion.{FirstQuestion}

abbrev pub asking_first : FirstQuestion → Asking
asking_first q = record { subject = subject_of q.instance; place = q.place.now; path = q.path.now; mode = mode_of q.mode }

-- the question for the unit of an instance at a place, with the path that led there
abbrev pub asking_unit : Instance → Place → Text → Asking
asking_unit instance place path = evaluating (subject_of instance) place path

-- A question as data, and the location at which a node works on it.
use Rattle.std.specs.Prelude.{◌≡◌, Some}
use Rattle.serde_json.specs.Data.{Data}
use Rattle.theory_definitions.specs.Instance.{Place, Subject, Text, subject_at}
use Rattle.theory_definitions.specs.Keywords.{Mode}
use Rattle.theory_definitions.specs.Meaning.{Where}
use Rattle.schema_reports.specs.InstanceViews.{subject_of}
use Rattle.schema_traits.specs.KeywordViews.{mode_of}
use Rattle.schema_run_context.specs.EvaluationPaths.{path_of}
use Rattle.schema_node_table.specs.NodeTable.{NodeEntry, absolute_in}
use Rattle.schema_node_table.specs.NodeViews.{node_of}
use Rattle.schema_node_table.specs.declared.node.Node.{Node}
use Rattle.schema_run_steps.specs.EvaluationPlaces.{steps_to}
use Rattle.schema_run_steps.specs.declared.question.Question.{Question}

-- a question: the subject that is validated, its place, the path that led there, and the mode
pub record Asking : Type 0 where
  pub subject : Subject
  pub place : Place
  pub path : Text
  pub mode : Mode

abbrev pub asking : Question → Asking
asking q = record { subject = subject_of q.instance; place = steps_to q.place.now; path = path_of q.path.now; mode = mode_of q.mode }

-- the location at which a node works, by path and place
abbrev pub entry_where : {K : Type 0} → NodeEntry K → Text → Place → Where
entry_where n path p = record { place = p; path = path; location = n.location; absolute = absolute_in n }

-- the location at which a node works on a question
abbrev pub where_asked : {C : Type 0} → NodeEntry C → Asking → Where
where_asked n q = entry_where n q.path q.place

-- the root value has the question's subject at the question's place
abbrev pub IsAskedOf : Data → Asking → Type 0
IsAskedOf root q = subject_at root q.place ≡ Some q.subject

-- the location at which a node of the code works on a question
abbrev pub at_work : {K : Type 0} → Node K → Question → Where
at_work n q = where_asked (node_of n) (asking q)

use Rattle.std.proofs.Common.{◌≡◌, ◌++◌, Bool, map, All, Some}
use Rattle.std.specs.Vec.Iter.{into_iter_items}
use Rattle.serde_json.specs.Data.{Data}
use Rattle.theory_definitions.specs.Instance.{subject_at}
use Rattle.schema_reports.specs.InstanceViews.{subject_of}
use Rattle.theory_definitions.specs.Meaning.{fault_error}
use Rattle.schema_reports.specs.ReportViews.{error_of, BorrowsItsPlace}
use Rattle.schema_run_steps.specs.EvaluationPlaces.{steps_to}
use Rattle.schema_run_context.specs.EvaluationPaths.{path_of}
use Rattle.schema_traits.specs.FaultViews.{LiesInside}
use Rattle.schema_traits.specs.KeywordViews.{fault_of}
use Rattle.schema_run_steps.specs.Askings.{entry_where}
use Rattle.schema_node_table.specs.NodeViews.{node_of}
use Rattle.schema_run_steps.proofs.faults.errors_by.Given as goal

abbrev pub invariant-loop-fault : goal.invariant-loop-fault
invariant-loop-fault g l =
    let f = fault_error (entry_where (node_of l.node) (path_of l.question.path.now) (steps_to l.question.place.now)) l.name in
    record {
      so_far : (texts : Bool) → map (error_of texts) l.errors.items ++ map f (map (fault_of texts) (into_iter_items l.fault-iterator)) ≡ map f (map (fault_of texts) l.fn.faults.items);
      borrows : (root : Data) → subject_at root (steps_to l.question.place.now) ≡ Some (subject_of l.question.instance) → All (LiesInside root (subject_of l.question.instance)) l.fn.faults.items → All (BorrowsItsPlace root) l.errors.items × All (LiesInside root (subject_of l.question.instance)) (into_iter_items l.fault-iterator);
      stays : l.context ≡ l.fn.context;
    }

use Rattle.std.proofs.Common.{◌≡◌, ◌++◌, Bool, map, take, drop}
use Rattle.std.specs.Prelude.{All}
use Rattle.serde_json.specs.Data.{Data}
use Rattle.theory_definitions.specs.Meaning.{stamped}
use Rattle.schema_reports.specs.ReportViews.{error_of, BorrowsItsPlace}
use Rattle.schema_node_table.specs.NodeTable.{keyword_absolute}
use Rattle.schema_node_table.specs.NodeViews.{node_of}
use Rattle.schema_run_steps.proofs.replies.stamped_errors.Given as goal

abbrev pub invariant-loop-error : goal.invariant-loop-error
invariant-loop-error g l =
    let f = stamped (keyword_absolute (node_of l.node) l.name) in
    record {
      so_far : (texts : Bool) → map (error_of texts) (take l.error-index l.error-items) ++ map f (map (error_of texts) (drop l.error-index l.error-items)) ≡ map f (map (error_of texts) l.fn.errors.items);
      borrows : (root : Data) → All (BorrowsItsPlace root) l.fn.errors.items → All (BorrowsItsPlace root) l.error-items;
    }

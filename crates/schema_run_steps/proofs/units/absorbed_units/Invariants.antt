use Rattle.std.proofs.Common.{◌≡◌, ◌++◌, Bool, map}
use Rattle.std.specs.Vec.Iter.{into_iter_items}
use Rattle.schema_run_steps.specs.EntryUnits.{absorbed_of}
use Rattle.schema_reports.specs.EvaluationResults.{named_of}
use Rattle.theory_definitions.specs.Instance.{Text}
use Rattle.theory_definitions.specs.Keywords.{Named}
use Rattle.theory_definitions.specs.Reports.{Unit_}
use Rattle.theory_definitions.specs.Units.{keyword_unit}
use Rattle.schema_node_table.specs.NodeViews.{node_of}
use Rattle.schema_run_steps.specs.Askings.{asking, where_asked}
use Rattle.schema_run_steps.proofs.units.absorbed_units.Given as goal

-- with those of the keywords that are left these are all
abbrev pub invariant-loop-one : goal.invariant-loop-one
invariant-loop-one g l =
    let f : Named → Text × Unit_ = λ a. (a.name, keyword_unit (where_asked (node_of l.node) (asking l.question)) a) in
    record {
      so_far : (texts : Bool) → map (absorbed_of texts) l.units.items ++ map f (map (named_of texts) (into_iter_items l.one-iterator)) ≡ map f (map (named_of texts) l.fn.absorbed.items);
      stays : l.context ≡ l.fn.context;
    }

use Rattle.std.proofs.Common.{◌≡◌, ◌++◌, Bool, map}
use Rattle.schema_reports.specs.ReportViews.{error_of}
use Rattle.theory_definitions.specs.Keywords.{passed}
use Rattle.schema_traits.specs.KeywordViews.{fault_of}
use Rattle.schema_traits.specs.declared.keyword.Fault.TheVariants.{Passed}
use Rattle.keyword_authoring.proofs.answers.pass_all.Given as goal

abbrev pub invariant-loop-error : goal.invariant-loop-error
invariant-loop-error l = record {
  told : (texts : Bool) → map (fault_of texts) l.faults.items ≡ map (fault_of texts) l.initial.faults.items ++ map passed (map (error_of texts) l.yielded);
  added : l.faults.items ≡ l.initial.faults.items ++ map Passed l.yielded;
}

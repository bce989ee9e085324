use Rattle.std.proofs.Common.{◌≡◌, Bool, map, drop, string_bytes, codes, All}
use Rattle.serde_json.specs.Data.{Data}
use Rattle.schema_traits.specs.FaultViews.{faults_in, PassesBorrowed}
use Rattle.schema_reports.specs.InstanceViews.{subject_of}
use Rattle.schema_reports.specs.ReportViews.{spoken}
use Rattle.schema_traits.specs.KeywordViews.{answer_of}
use Rattle.keyword_authoring.specs.Ways.{noted}
use Rattle.standard_basics.specs.Words.{missing, required_text}
use Rattle.standard_basics.proofs.required.tell_required.Given as goal

abbrev pub invariant-loop-name : goal.invariant-loop-name
invariant-loop-name l = record {
  told : (texts : Bool) → noted l.fn.mode (codes "required") (answer_of texts l.initial.answer) (map (λ k. spoken texts (required_text k)) (missing (map string_bytes l.names) (subject_of l.instance)))
      ≡ noted l.fn.mode (codes "required") (answer_of texts l.answer) (map (λ k. spoken texts (required_text k)) (missing (map string_bytes (drop l.name-index l.names)) (subject_of l.instance)));
  borrows : (root : Data) → All (PassesBorrowed root) (faults_in l.initial.answer) → All (PassesBorrowed root) (faults_in l.answer);
}

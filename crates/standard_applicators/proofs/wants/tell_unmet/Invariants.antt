use Rattle.std.proofs.Common.{◌≡◌, Bool, drop, codes, All}
use Rattle.serde_json.specs.Data.{Data}
use Rattle.schema_traits.specs.FaultViews.{faults_in, PassesBorrowed}
use Rattle.schema_reports.specs.InstanceViews.{subject_of}
use Rattle.schema_traits.specs.KeywordViews.{answer_of}
use Rattle.keyword_authoring.specs.Ways.{noted}
use Rattle.standard_applicators.proofs.UnmetWants.{told_texts}
use Rattle.standard_applicators.proofs.wants.tell_unmet.Given as goal

abbrev pub invariant-loop-want : goal.invariant-loop-want
invariant-loop-want l = record {
  told : (texts : Bool) → noted l.fn.mode (codes "dependencies") (answer_of texts l.initial.answer) (told_texts texts (subject_of l.instance) l.wants)
      ≡ noted l.fn.mode (codes "dependencies") (answer_of texts l.answer) (told_texts texts (subject_of l.instance) (drop l.want-index l.wants));
  borrows : (root : Data) → All (PassesBorrowed root) (faults_in l.initial.answer) → All (PassesBorrowed root) (faults_in l.answer);
}

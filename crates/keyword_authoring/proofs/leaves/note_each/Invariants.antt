use Rattle.std.proofs.Common.{All, ◌≡◌, Bool, map, string_bytes}
use Rattle.serde_json.specs.Data.{Data}
use Rattle.schema_reports.specs.ReportViews.{spoken}
use Rattle.schema_traits.specs.FaultViews.{PassesBorrowed, faults_in}
use Rattle.schema_traits.specs.KeywordViews.{answer_of}
use Rattle.keyword_authoring.specs.Ways.{noted}
use Rattle.keyword_authoring.proofs.leaves.note_each.Given as goal

abbrev pub invariant-loop-text : goal.invariant-loop-text
invariant-loop-text l = record {
  told : (texts : Bool) → answer_of texts l.answer ≡ noted l.mode l.name (answer_of texts l.initial.answer) (map (λ text. spoken texts (string_bytes text)) l.yielded);
  borrows : (root : Data) → All (PassesBorrowed root) (faults_in l.initial.answer) → All (PassesBorrowed root) (faults_in l.answer);
}

-- The replies of the code: joined, with stamped errors, and of the schema `false`; and the places
-- that their errors borrow.
use Rattle.std.specs.Prelude.{All, Bool, List, false, map, true, ◌≡◌}
use Rattle.serde_json.specs.Data.{Data}
use Rattle.theory_definitions.specs.Instance.{Subject, Text}
use Rattle.theory_definitions.specs.Meaning.{Where, false_outcome, stamped}
use Rattle.schema_reports.specs.InstanceTexts.{subject_has_float}
use Rattle.schema_reports.specs.InstanceViews.{subject_of}
use Rattle.schema_reports.specs.ReportViews.{BorrowsItsPlace, error_of}
use Rattle.schema_reports.specs.declared.reports.ValidationError.{ValidationError}
use Rattle.schema_traits.specs.FaultViews.{errors_in}
use Rattle.schema_traits.specs.KeywordViews.{mode_of, reply_of}
use Rattle.schema_traits.specs.declared.keyword.Reply.{Reply}
use Rattle.schema_node_table.specs.NodeTable.{keyword_absolute}
use Rattle.schema_node_table.specs.NodeViews.{node_of}
use Rattle.schema_node_table.specs.declared.node.Node.{Node}
use Rattle.schema_run_steps.specs.Askings.{at_work}
use Rattle.schema_run_steps.specs.ReplyModes.{Joins, Stamps, reply_by}
use Rattle.schema_run_steps.specs.declared.question.Question.{Question}

-- the third reply joins the first two
abbrev pub SaysBoth : Reply → Reply → Reply → Type 0
SaysBoth a b r = (texts : Bool) → Joins (reply_of texts a) (reply_of texts b) (reply_of texts r)

-- each error of the third reply borrows its place, if each error of the first two does
abbrev pub BorrowsBoth : Reply → Reply → Reply → Type 0
BorrowsBoth a b r = (root : Data) → All (BorrowsItsPlace root) (errors_in a) → All (BorrowsItsPlace root) (errors_in b) → All (BorrowsItsPlace root) (errors_in r)

-- each new error borrows its place, if each old one does
abbrev pub StayBorrowed : List ValidationError → List ValidationError → Type 0
StayBorrowed old new = (root : Data) → All (BorrowsItsPlace root) old → All (BorrowsItsPlace root) new

module _ {K : Type 0} (n : Node K) (name : Text) where
  -- an error is stamped with the location of the node's keyword with this name
  abbrev pub StampsError : ValidationError → ValidationError → Type 0
  StampsError old new = (texts : Bool) → error_of texts new ≡ stamped (keyword_absolute (node_of n) name) (error_of texts old)

  -- each of these errors is stamped so, in order; and (below) so is each error of a reply
  abbrev pub StampsErrors : List ValidationError → List ValidationError → Type 0
  StampsErrors old new = (texts : Bool) → map (error_of texts) new ≡ map (stamped (keyword_absolute (node_of n) name)) (map (error_of texts) old)

  abbrev pub StampsReply : Reply → Reply → Type 0
  StampsReply old new = (texts : Bool) → Stamps (keyword_absolute (node_of n) name) (reply_of texts old) (reply_of texts new)

-- a value is what the schema `false` yields for the question; texts are compared only if the
-- instance contains no fraction
abbrev pub SaysFalse : {K A B : Type 0} → Node K → Question → (Bool → A → B) → (Bool → Where → Subject → B) → A → Type 0
SaysFalse n q view_of says a = (texts : Bool) → (texts ≡ true → subject_has_float (subject_of q.instance) ≡ false)
    → view_of texts a ≡ says texts (at_work n q) (subject_of q.instance)

-- a reply is what the schema `false` yields for the question in its mode
abbrev pub RefusesAsked : {K : Type 0} → Node K → Question → Reply → Type 0
RefusesAsked n q r = SaysFalse n q reply_of (λ texts w s. reply_by (mode_of q.mode) (false_outcome texts w s)) r

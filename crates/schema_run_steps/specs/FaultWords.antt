-- The errors of a keyword's faults, the reply of its answer, and the places that the errors borrow.
use Rattle.std.specs.Prelude.{All, Bool, IfOk, Result, map, option_map, string_bytes, ◌++◌, ◌≡◌}
use Rattle.std.specs.declared.alloc.Global.{Global}
use Rattle.std.specs.declared.vec.Vec.{Vec}
use Rattle.serde_json.specs.Data.{Data}
use Rattle.theory_definitions.specs.Instance.{Text}
use Rattle.theory_definitions.specs.Keywords.{Mode}
use Rattle.theory_definitions.specs.Meaning.{fault_error}
use Rattle.theory_definitions.specs.Pointer.{joined}
use Rattle.schema_reports.specs.InstanceViews.{subject_of}
use Rattle.schema_reports.specs.ReportViews.{BorrowsItsPlace, error_of}
use Rattle.schema_reports.specs.declared.reports.ValidationError.{ValidationError}
use Rattle.schema_traits.specs.FaultViews.{FaultsLieInside, LiesInside, answer_reply, errors_in}
use Rattle.schema_traits.specs.KeywordViews.{answer_of, fault_of, fresh, reply_of}
use Rattle.schema_traits.specs.declared.keyword.Answer.{Answer}
use Rattle.schema_traits.specs.declared.keyword.Fault.{Fault}
use Rattle.schema_traits.specs.declared.keyword.OwnError.{OwnError}
use Rattle.schema_traits.specs.declared.keyword.Reply.{Reply}
use Rattle.schema_node_table.specs.NodeTable.{keyword_absolute}
use Rattle.schema_node_table.specs.NodeViews.{node_of}
use Rattle.schema_node_table.specs.declared.node.Node.{Node}
use Rattle.schema_run_steps.specs.Askings.{IsAskedOf, asking, at_work}
use Rattle.schema_run_steps.specs.PlaceWords.{name_from, path_here, place_under}
use Rattle.schema_run_steps.specs.declared.faults.ErrorPlaces.{ErrorPlaces}
use Rattle.schema_run_steps.specs.declared.question.Question.{Question}

-- a result is an answer in this mode that has found nothing yet
abbrev pub GivesFresh : {E : Type 0} → Mode → Result Answer E → Type 0
GivesFresh mode result = IfOk result (λ a. (texts : Bool) → answer_of texts a ≡ fresh mode)

-- this is the verdict of an answer
abbrev pub IsVerdictOf : Answer → Bool → Type 0
IsVerdictOf a b = (texts : Bool) → b ≡ (answer_of texts a).verdict

-- the path of an error of a keyword's own, after the path of the keyword's schema
abbrev pub error_path : OwnError → Text → Text → Text
error_path e name before = joined before (name_from e.absorbed name) ++ string_bytes e.path

-- an error of the keyword's own has this place and these locations
pub record ErrorStandsAt {K : Type 0} (n : Node K) (name : Text) (q : Question) (e : OwnError) (p : ErrorPlaces) : Type 0 where
  pub place : p.place ≡ place_under q.place.now e.below.items
  pub schema_path : p.schema_path ≡ error_path e name n.location
  pub evaluation_path : p.evaluation_path ≡ error_path e name (path_here q)
  pub absolute : option_map string_bytes p.absolute_keyword_location ≡ keyword_absolute (node_of n) (name_from e.absorbed name)

module _ {K : Type 0} (n : Node K) (name : Text) (q : Question) where
  -- a result is the error of a fault of the node's keyword with this name
  abbrev pub SaysFault : {E : Type 0} → Fault → Result ValidationError E → Type 0
  SaysFault f result = IfOk result (λ e. (texts : Bool) → error_of texts e ≡ fault_error (at_work n q) name (fault_of texts f))

  -- a result has one error for each fault, in order
  abbrev pub SaysFaults : {E : Type 0} → Vec Fault Global → Result (Vec ValidationError Global) E → Type 0
  SaysFaults fs result = IfOk result (λ es. (texts : Bool) → map (error_of texts) es.items ≡ map (fault_error (at_work n q) name) (map (fault_of texts) fs.items))

  -- a reply is the one that the answer yields in a mode
  abbrev pub SaysAnswer : Mode → Answer → Reply → Type 0
  SaysAnswer mode a r = (texts : Bool) → reply_of texts r ≡ answer_reply mode (at_work n q) name (answer_of texts a)

module _ (q : Question) where
  -- the resulting error borrows its place, if the fault is inside the subject of the question
  abbrev pub BorrowsFault : {E : Type 0} → Fault → Result ValidationError E → Type 0
  BorrowsFault f result = IfOk result (λ e. (root : Data) → IsAskedOf root (asking q) → LiesInside root (subject_of q.instance) f → BorrowsItsPlace root e)

  -- each of the resulting errors borrows its place, if each fault is inside the subject
  abbrev pub BorrowsFaults : {E : Type 0} → Vec Fault Global → Result (Vec ValidationError Global) E → Type 0
  BorrowsFaults fs result = IfOk result (λ es. (root : Data) → IsAskedOf root (asking q) → All (LiesInside root (subject_of q.instance)) fs.items → All (BorrowsItsPlace root) es.items)

  -- each error of a reply borrows its place, if the faults that the mode requests are inside the
  -- subject
  abbrev pub BorrowsAnswer : Mode → Answer → Reply → Type 0
  BorrowsAnswer mode a r = (root : Data) → IsAskedOf root (asking q) → FaultsLieInside mode root (subject_of q.instance) a → All (BorrowsItsPlace root) (errors_in r)

  -- each error of a reply borrows its place
  abbrev pub BorrowsAsked : Reply → Type 0
  BorrowsAsked r = (root : Data) → IsAskedOf root (asking q) → All (BorrowsItsPlace root) (errors_in r)

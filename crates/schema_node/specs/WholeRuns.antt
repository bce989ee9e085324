-- The reply of a whole run of a node, the matches that it meets, and the context that it leaves,
-- over the table of nodes and the matcher: one word for each.
use Rattle.std.specs.Prelude.{Bool, IfOk, List, Result, ℕ}
use Rattle.serde_json.specs.View.{view}
use Rattle.theory_definitions.specs.Keywords.{Keywords}
use Rattle.theory_definitions.specs.Matching.{Matcher}
use Rattle.schema_reports.specs.declared.evaluation.EvaluationNode.{EvaluationNode}
use Rattle.schema_traits.specs.declared.keyword.Reply as code
use Rattle.schema_run_context.specs.Progress.{Context}
use Rattle.schema_node_table.specs.NodeTable.{NodeEntry, numbered}
use Rattle.schema_run_steps.specs.Askings.{Asking, IsAskedOf}
use Rattle.schema_node.specs.RunAnswers.{AsksNode, CountsOn, KeepsAssumed, KeepsMarks, KeepsPairs}
use Rattle.theory_runs.specs.RunStates.{NodeRemembers, RunBorrows, RunMeets, RunRemembers, RunReplies, RunSpeaks, StaysRight, forgotten, setting_over}
use Rattle.theory_runs.specs.UnitStates.{RunGives}
use Rattle.theory_runs.specs.Visits.{NodeCounts}

-- the context's instance has the subject at the place
abbrev pub SubjectStandsIn : Context → Asking → Type 0
SubjectStandsIn c q = IsAskedOf (view c.root) q

-- the reply is of the mode, and (below) each error borrows the instance at its place
abbrev pub SpeaksInMode : {E : Type 0} → Asking → Result code.Reply E → Type 0
SpeaksInMode q result = IfOk result (λ r. RunSpeaks q r)

abbrev pub BorrowsThere : {E : Type 0} → Asking → Result code.Reply E → Type 0
BorrowsThere q result = IfOk result (λ r. RunBorrows q r)

module _ {C K : Type 0} (shape : C → K) (ns : List (NodeEntry C)) (q : Asking) (c c' : Context) where
  -- if the node leads on across references only, then as many visits are counted as it takes
  abbrev pub CountsNode : {T E : Type 0} → ℕ → Result T E → Type 0
  CountsNode i result = IfOk result (λ _. NodeCounts (numbered shape ns) q c c' i)

  -- if the node's only entry is a guarded reference, then its verdict is read or remembered
  abbrev pub RemembersNode : {E : Type 0} → ℕ → Result code.Reply E → Type 0
  RemembersNode i result = IfOk result (λ r. NodeRemembers q c c' (numbered shape ns) i r)

module _ {K R C M : Type 0} (words : Bool → Keywords K R) (is_whole : K → Bool) (shape : C → K) (matching : M → Matcher) (ns : List (NodeEntry C)) (matcher : M) (q : Asking) (c : Context) where
  -- the reply is that of the node's run, and (below) so is the unit
  abbrev pub RepliesByRun : {E : Type 0} → ℕ → Result code.Reply E → Type 0
  RepliesByRun i result = IfOk result (λ r. RunReplies (setting_over words is_whole shape ns (matching matcher)) q c i r)

  abbrev pub GivesByRun : {E : Type 0} → ℕ → Result EvaluationNode E → Type 0
  GivesByRun i result = IfOk result (λ u. RunGives (setting_over words is_whole shape ns (matching matcher)) q c i u)

  -- the unfinished matches that the node's run meets are remembered after it
  abbrev pub MeetsByRun : {T E : Type 0} → ℕ → Context → Result T E → Type 0
  MeetsByRun i c' result = IfOk result (λ _. RunMeets (setting_over words is_whole shape ns (matching matcher)) q c c' i)

  -- the remembered verdicts stay right
  abbrev pub StaysRightInRun : {T E : Type 0} → Context → Result T E → Type 0
  StaysRightInRun c' result = IfOk result (λ _. StaysRight (setting_over words is_whole shape ns (matching matcher)) q c c')

  -- the verdicts that the context remembers after a run are right
  abbrev pub RightAfterRun : {T E : Type 0} → Result T E → Type 0
  RightAfterRun result = IfOk result (λ _. RunRemembers (setting_over words is_whole shape ns (matching matcher)) q c)

-- ---- the result of a node's run with forgotten verdicts, of one as a part of a run, and of an
-- evaluation

pub record NodeIsRun {K R C M E : Type 0} (words : Bool → Keywords K R) (is_whole : K → Bool) (shape : C → K) (matching : M → Matcher) (ns : List (NodeEntry C)) (matcher : M) (q : Asking) (i : ℕ) (c c' : Context) (result : Result code.Reply E) : Type 0 where
  pub kept : KeepsPairs c c' result
  pub assumes : KeepsAssumed c c' result
  pub marking : KeepsMarks c c' result
  pub works : AsksNode c c' result
  pub replies : RepliesByRun words is_whole shape matching ns matcher q c i result
  pub meets : MeetsByRun words is_whole shape matching ns matcher q c i c' result
  pub speaks : SpeaksInMode q result
  pub borrows : BorrowsThere q result
  pub right : RightAfterRun words is_whole shape matching ns matcher q c' result
  pub remembers : RemembersNode shape ns q (forgotten c) c' i result
  pub visits : CountsNode shape ns q (forgotten c) c' i result

pub record NodeIsRunFurther {K R C M E : Type 0} (words : Bool → Keywords K R) (is_whole : K → Bool) (shape : C → K) (matching : M → Matcher) (ns : List (NodeEntry C)) (matcher : M) (q : Asking) (i : ℕ) (c c' : Context) (result : Result code.Reply E) : Type 0 where
  pub kept : KeepsPairs c c' result
  pub assumes : KeepsAssumed c c' result
  pub marking : KeepsMarks c c' result
  pub works : AsksNode c c' result
  pub counts : CountsOn c c' result
  pub replies : RepliesByRun words is_whole shape matching ns matcher q c i result
  pub meets : MeetsByRun words is_whole shape matching ns matcher q c i c' result
  pub speaks : SpeaksInMode q result
  pub borrows : BorrowsThere q result
  pub stays : StaysRightInRun words is_whole shape matching ns matcher q c c' result
  pub remembers : RemembersNode shape ns q c c' i result
  pub visits : CountsNode shape ns q c c' i result

pub record NodeIsEvaluated {K R C M E : Type 0} (words : Bool → Keywords K R) (is_whole : K → Bool) (shape : C → K) (matching : M → Matcher) (ns : List (NodeEntry C)) (matcher : M) (q : Asking) (i : ℕ) (c c' : Context) (result : Result EvaluationNode E) : Type 0 where
  pub kept : KeepsPairs c c' result
  pub assumes : KeepsAssumed c c' result
  pub marking : KeepsMarks c c' result
  pub works : AsksNode c c' result
  pub gives : GivesByRun words is_whole shape matching ns matcher q c i result
  pub meets : MeetsByRun words is_whole shape matching ns matcher q c i c' result
  pub right : RightAfterRun words is_whole shape matching ns matcher q c' result

-- The questions and answers of a solver's functions, by the values of the program, and by the
-- members of its keyword type and matcher type.
use Rattle.std.specs.Prelude.{[], Bool, IfErr, IfOk, IfSome, List, Option, Result, is_some, length, true, ℕ, ◌≡◌, ◌≤◌, ◌⊎◌}
use Rattle.serde_json.specs.Data.{object}
use Rattle.serde_json.specs.View.{members_view, view}
use Rattle.serde_json.specs.declared.value.Value.{Value}
use Rattle.theory_definitions.specs.Instance.{a_value}
use Rattle.theory_definitions.specs.Keywords.{Question, for_verdict}
use Rattle.schema_reports.specs.InstanceViews.{subject_of}
use Rattle.schema_reports.specs.declared.instance.Instance.{Instance}
use Rattle.schema_traits.specs.KeywordViews.{answer_of, fresh}
use Rattle.schema_traits.specs.declared.keyword.Answer as code_answer
use Rattle.schema_traits.specs.declared.keyword.Validate as keyword
use Rattle.schema_traits.specs.declared.matcher.Matcher as matcher
use Rattle.schema_traits.specs.Members.{Entries}
use Rattle.schema_traits.specs.Questions.{SaysByQuestions}
use Rattle.schema_node_table.specs.NodeTable.{numbered}
use Rattle.schema_run_steps.specs.declared.question.NamedKeyword.{NamedKeyword}
use Rattle.schema_run_steps.specs.EvaluationPlaces.{steps_to}
use Rattle.schema_solver_state.specs.AtNumbers.{HasOwnNumbers}
use Rattle.schema_solver_state.specs.Contexts.{Solver}
use Rattle.schema_solver_state.specs.Saying.{WhatIsSaid}
use Rattle.schema_solver_state.specs.SolverPairs.{HasItsNumber, IsFree, IsIdle, IsUnknown, place_of}
use Rattle.schema_solver_state.specs.declared.pair.SolverPair.{SolverPair}
use Rattle.schema_solver.specs.declared.question.Asked.{Asked}
use Rattle.schema_solver.specs.declared.question.SolverEngine.{SolverEngine}
use Rattle.schema_solver.specs.declared.question.Stopped.{Stopped}
use Rattle.schema_solver.specs.declared.question.Stopped.TheVariants as stopped
use Rattle.schema_solver.specs.Asked.{solver_by}
use Rattle.schema_solver.specs.Solved.{MayAsk, Solves, Turns, Wanted, a_pair}
use Rattle.schema_solver.specs.Solving.{BeginsFew, EachSays, HoldsAsNodes, IsSoundIn, LimitWithinBound, RestsOnFound, SaysAsNodes}
use Rattle.schema_solver.specs.TurningOn.{HasBegun}

-- ---- what is found of a root

-- this holds of a verdict, if one is found
abbrev pub IfFound : {A E : Type 0} → Result (Option A) E → (A → Type 0) → Type 0
IfFound result Holds = IfOk result (λ found. IfSome found Holds)

-- this holds if the solver stops at the limit
abbrev pub IfAtLimit : {A : Type 0} → Result A Stopped → Type 0 → Type 0
IfAtLimit result Holds = IfErr result (λ e. e ≡ stopped.Limit → Holds)

-- ---- questions and answers

-- the instance is an object with these members
abbrev pub HasMembers : Asked → Entries → Type 0
HasMembers q members = a_value (object (members_view members)) ≡ subject_of q.instance

module _ {C R K : Type 0} (k : keyword.Ghosts C R K) where
  -- each keyword of the engine's nodes says of itself that it is monotone
  abbrev pub EachSaysMonotone : {M : Type 0} → SolverEngine C M → Type 0
  EachSaysMonotone e = EachSays k.says_monotone (numbered k.shape e.nodes.now) (length e.nodes.now)

  -- the keyword has the verdict that the answers to these questions give: all of them have to
  -- accept, or one has to
  abbrev pub SaysBy : C → Asked → Bool → List Question → Type 0
  SaysBy c q all questions = SaysByQuestions k.words k.is_whole (subject_of q.instance) (k.shape c) all questions

  -- a run of the keyword on the instance begins for a verdict
  abbrev pub BeginsRun : C → Instance → R → Type 0
  BeginsRun c instance run = (texts : Bool) → (k.words texts).begin (k.shape c) (subject_of instance) for_verdict ≡ (run, fresh for_verdict)

module _ {C R K M : Type 0} (k : keyword.Ghosts C R K) (m : matcher.Ghosts M) (e : SolverEngine C M) (q : Asked) where
  -- the question may be put to this
  abbrev pub CanAsk : Wanted K → Solver → Type 0
  CanAsk wanted c = MayAsk (solver_by k m e) q wanted c

  -- and this is the answer
  abbrev pub Answers : Wanted K → Solver → Solver → Result WhatIsSaid Stopped → Type 0
  Answers wanted old new told = Solves (solver_by k m e) k.says_monotone q wanted old new told

  -- the keyword's run on the instance has begun, and its answer is fresh
  abbrev pub HasBegunRun : NamedKeyword C → R → code_answer.Answer → Type 0
  HasBegunRun named run answer = HasBegun (solver_by k m e) (subject_of q.instance) (k.shape named.keyword.now) run answer

  -- the keyword's turns are done, with this answer
  abbrev pub AnswersByTurns : NamedKeyword C → Solver → Solver → Result Bool Stopped → code_answer.Answer → Type 0
  AnswersByTurns named old new told answer = Turns (solver_by k m e) k.says_monotone q k.shape named old new told (λ texts. (answer_of texts answer).verdict)

-- the pair of the question may begin: nothing is known of it
pub record PairMayBegin {C R K M : Type 0} (k : keyword.Ghosts C R K) (m : matcher.Ghosts M) (e : SolverEngine C M) (q : Asked) (i : ℕ) (p : SolverPair) (c : Solver) : Type 0 where
  pub may_ask : CanAsk k m e q (a_pair i) c
  pub node : p.node.0 ≡ i
  pub place : place_of p ≡ steps_to q.place.now
  pub numbered : HasItsNumber p c
  pub own : HasOwnNumbers c
  pub unknown : IsUnknown p c
  pub idle : IsIdle p c
  pub free : IsFree p c

-- the verdict of a node of an instance at its root place, and the facts in the context then; or why
-- there is no verdict
pub record SolvesRoot {C R K M : Type 0} (k : keyword.Ghosts C R K) (m : matcher.Ghosts M) (e : SolverEngine C M) (v : Value) (i : ℕ) (c : Solver) (result : Result (Option Bool) Stopped) : Type 0 where
  pub exactly : EachSaysMonotone k e → IfOk result (λ found. is_some found ≡ true)
  pub says : IfFound result (SaysAsNodes (solver_by k m e) (view v) i)
  pub root : IfFound result (λ _. c.root ≡ v)
  pub idle : IfFound result (λ _. c.in_progress ≡ [])
  pub holds : IfFound result (λ _. HoldsAsNodes (solver_by k m e) c)
  pub sound : IfFound result (λ _. IsSoundIn (solver_by k m e) c)
  pub rests : IfFound result (RestsOnFound (solver_by k m e) c i)
  pub few : IfFound result (λ _. BeginsFew (solver_by k m e) v c.begun)
  pub within : IfOk result (λ _. IfSome e.most (λ most. c.begun ≤ most))
  pub stops : IfErr result (λ why. (why ≡ stopped.OutOfMemory) ⊎ ((why ≡ stopped.Limit) ⊎ (why ≡ stopped.Depth)))
  pub limited : IfAtLimit result (is_some e.most ≡ true)
  pub late : IfAtLimit result (IfSome e.most (LimitWithinBound (solver_by k m e) v))

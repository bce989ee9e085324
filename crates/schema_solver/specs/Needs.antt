-- How deep the questions of a solver have to go; the state of a node's entries, and of the
-- questions that a keyword asks up front, between two of them; and the effect of a pair's run.
use Rattle.std.specs.List.{list_any}
use Rattle.std.specs.Prelude.{Bool, List, [], false, length, not, suc, true, ℕ, ◌&&◌, ◌++◌, ◌==◌, ◌∷◌, ◌≡◌}
use Rattle.serde_json.specs.View.{view}
use Rattle.theory_definitions.specs.Instance.{Place, Subject}
use Rattle.theory_definitions.specs.Guarded.{Children, NodeEdge, NodePart, Nodes, node_keyword}
use Rattle.theory_definitions.specs.Keywords.{Question}
use Rattle.theory_meaning.specs.Numbered.{left}
use Rattle.schema_traits.specs.AskedAtOnce.{HoldsAsTold}
use Rattle.schema_traits.specs.Questions.{answers_say}
use Rattle.schema_traits.specs.KeywordViews.{Tells as MayTell}
use Rattle.schema_traits.specs.declared.asking.Asking.{Asking}
use Rattle.theory_fixed_points.specs.Under.{EdgeAnswers, Solving}
use Rattle.theory_fixed_points.specs.Found.{Found}
use Rattle.theory_fixed_points.specs.Stages.{Fits, Tells, child_by, edges_by, form_by, parts_by}
use Rattle.schema_solver_state.specs.Contexts.{Solver, found_of}
use Rattle.schema_solver_state.specs.Answering.{Begins}
use Rattle.schema_solver_state.specs.Saying.{WhatIsSaid}
use Rattle.schema_solver.specs.Solving.{Goes, HasRoom, InEach, IsNew, Setting}

-- for a pair: none if it is in progress
abbrev pub pair_needs : {K : Type 0} → Nodes K → ℕ → ℕ → Subject → List ℕ → ℕ
pair_needs nodes count i s busy = elim (list_any (λ k. k == i) busy) [ true ↦ 0 | false ↦ suc (left nodes count i s (i ∷ busy)) ]

-- for an edge: those of its pair if that is looked up, and else those of the number that it leads
-- to
abbrev pub edge_needs : {K : Type 0} → (NodeEdge → Bool) → Nodes K → ℕ → NodeEdge → Subject → List ℕ → ℕ
edge_needs cut nodes count e s busy = elim (cut e) [ true ↦ pair_needs nodes count e.node s busy | false ↦ suc (left nodes count e.node s busy) ]

-- all entries have the verdict of the remaining ones, for answers that agree with what is known
-- and, if `leans` is set, are "valid" for the pairs that count as valid for now. For any answers,
-- all entries refuse if the remaining ones do
pub record SaysTheRest {K R : Type 0} (w : Solving K R) (p : Place) (f : Found) (leans : Bool) (all rest : List (NodePart K)) : Type 0 where
  pub same : (answers : EdgeAnswers) → Fits f leans answers → parts_by w p answers all ≡ parts_by w p answers rest
  pub refuses : (answers : EdgeAnswers) → parts_by w p answers rest ≡ false → parts_by w p answers all ≡ false

-- in each reading in which its texts are covered, these are the questions that the keyword asks up
-- front about the subject
abbrev pub TellsWhatItAsks : {K R : Type 0} → Setting K R → Subject → K → Asking → Type 0
TellsWhatItAsks g s m a = (texts : Bool) → MayTell texts (g.is_whole m) s → HoldsAsTold (g.words texts) m s a

-- the keyword has the verdict of the remaining questions, for answers that agree with what is known
-- and, if all questions have to accept and `leans` is set, are "valid" for the pairs that count as
-- valid for now. For any answers, the keyword has the verdict `not all` if the remaining questions
-- have it
pub record SaysByTheRest {K R : Type 0} (w : Solving K R) (p : Place) (f : Found) (m : K) (es : Children) (all leans : Bool) (rest : List Question) : Type 0 where
  pub same : (answers : EdgeAnswers) → Fits f (all && leans) answers
      → form_by w p (edges_by w p answers) (node_keyword m es) ≡ answers_say all (child_by w p (edges_by w p answers) es) rest
  pub ends : (answers : EdgeAnswers) → answers_say all (child_by w p (edges_by w p answers) es) rest ≡ not all
      → form_by w p (edges_by w p answers) (node_keyword m es) ≡ not all

-- a new pair was begun, as one more was allowed; its node was run and had this answer; and the pair
-- was left
pub record PairRan {K R : Type 0} (g : Setting K R) (old begun end left : Solver) (p : Place) (i mark : ℕ) (s : WhatIsSaid) : Type 0 where
  pub is_new : IsNew g old p i
  pub room : HasRoom g old
  pub begins : Begins i p old begun
  pub went : Goes g p begun end
  pub says : InEach g (view end.root) (λ texts w. Tells w (found_of end) i p s.valid s.leans)
  pub at_mark : mark ≡ length old.assumed
  pub in_progress : end.in_progress ≡ left.in_progress ++ (i, p) ∷ []
  pub root : left.root ≡ end.root
  pub assumed : left.assumed ≡ end.assumed
  pub verdicts : left.verdicts ≡ end.verdicts
  pub marking : left.marking ≡ end.marking
  pub begun_still : left.begun ≡ end.begun

-- The state of a keyword's run for the verdict between two turns, for all answers of edges that
-- agree with the replies so far.
use Rattle.std.specs.Prelude.{Bool, List, None, [], false, true, ◌∷◌}
use Rattle.theory_definitions.specs.Instance.{Place, Subject}
use Rattle.theory_definitions.specs.Reports.{Error, Outcome, Unit_, accepted, no_units, spans_nothing, unit}
use Rattle.theory_definitions.specs.Matching.{Matching, matching}
use Rattle.theory_definitions.specs.Keywords.{Answer, Answers, Below, Marked, Question, Reply, for_verdict}
use Rattle.theory_definitions.specs.Laws.{IsRight}
use Rattle.theory_definitions.specs.Turns.{Standing}
use Rattle.theory_definitions.specs.Guarded.{Children, NodeEdge, node_asked, same_edge}
use Rattle.theory_meaning.specs.Numbered.{subject_in}
use Rattle.theory_fixed_points.specs.Under.{Solving}
use Rattle.theory_fixed_points.specs.Found.{Found}
use Rattle.theory_fixed_points.specs.Stages.{Consistent}

-- An arbitrary error, for an outcome whose verdict is no.
abbrev pub some_error : Error
some_error = record { place = []; schema_path = []; evaluation_path = []; absolute = None; name = []; text = [] }

-- An outcome with a given verdict.
abbrev pub outcome_with : Bool → Outcome
outcome_with true = accepted
outcome_with false = record { verdict = false; errors = some_error ∷ []; spans = spans_nothing }

-- A unit with the verdict of an outcome.
abbrev pub unit_with : Outcome → Unit_
unit_with o = unit (record { valid = o.verdict; instance_location = []; evaluation_path = []; schema_path = []; absolute = None; annotations = None; errors = [] }) no_units

module _ {K R : Type 0} (w : Solving K R) (p : Place) where
  -- The subject at the place.
  abbrev pub subject_here : Subject
  subject_here = subject_in w.instance p

  -- The matches under the completion.
  abbrev pub matches_here : Matching
  matches_here = matching w.matcher w.completion

  -- The answers of edges.
  abbrev pub Given : Type 0
  Given = NodeEdge → Below → Bool

  -- The outcomes of a keyword's questions, given the answers of its edges.
  abbrev pub answers_by : Given → Children → Answers
  answers_by given es = node_asked w.keywords w.matcher w.nodes (subject_in w.instance) accepted es (λ e b. outcome_with (given e b))

  -- The units of a keyword's questions, given the answers of its edges.
  abbrev pub units_by : Given → Children → Question → Unit_
  units_by given es q = unit_with (answers_by given es q)

  -- The run in progress, given the answers of its edges.
  abbrev pub stands_by : Given → Children → List Marked → R → Reply → Standing R
  stands_by given es marks r reply = record {
    subject = subject_here;
    matches = matches_here;
    answers = answers_by given es;
    unit_at = units_by given es;
    same = same_edge es;
    marks = marks;
    state = r;
    reply = reply;
  }

  -- With these answers the run fits, and ends in the right answer.
  pub record EndsBy (m : K) (end_of : Standing R → Answer) (Fits : Standing R → Type 0) (es : Children) (marks : List Marked) (r : R) (reply : Reply) (given : Given) : Type 0 where
    pub fits : Fits (stands_by given es marks r reply)
    pub right : IsRight w.keywords m subject_here matches_here (answers_by given es) (units_by given es) (same_edge es) for_verdict (end_of (stands_by given es marks r reply))

  -- The run fits, and ends in the right answer, with all answers that agree with the replies so
  -- far; a yes among these may be provisional only if `leans` is set.
  abbrev pub TurnsBy : Found → Bool → (m : K) (end_of : Standing R → Answer) (Fits : Standing R → Type 0) → Children → List Marked → R → Reply → Type 0
  TurnsBy f leans m end_of Fits es marks r reply = (given : Given) → Consistent w p f leans given → EndsBy m end_of Fits es marks r reply given

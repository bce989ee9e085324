-- A keyword type defines which questions each keyword may ask, when the keyword holds, which faults
-- it finds, what it spans, and how a run of it proceeds turn by turn. A child is named by the number
-- of the request by which the keyword's maker obtained it. (Core 2020-12, 7.1, 10 and 11)
use Rattle.std.specs.List.{list_all, list_any}
use Rattle.std.specs.Prelude.{Bool, List, Option, None, Some, [], false, true, ℕ, ◌&&◌, ◌||◌, ◌==◌, ◌++◌, ◌∷◌}
use Rattle.serde_json.specs.Data.{Data}
use Rattle.theory_definitions.specs.Instance.{Place, Step, Subject, Text, same_step}
use Rattle.theory_definitions.specs.Reports.{Described, Error, Outcome, Unit_}
use Rattle.theory_definitions.specs.Matching.{Matching, Pair}

-- Where a question is asked: at the keyword's own place, or one step below it.
pub data Below : Type 0 where
  here : Below
  down : Step → Below

-- A question to a child, which is named by the number of its request, at the keyword's place or
-- below it.
pub record Question : Type 0 where
  pub child : ℕ
  pub below : Below

-- What a run is for: the verdict, the first error, all errors, or the units of an evaluation.
pub data Mode : Type 0 where
  for_verdict for_first for_all for_units : Mode

-- The location of an error or a match, relative to the keyword, or to the named keyword that it
-- absorbs.
pub record Spot : Type 0 where
  pub absorbed : Option Text
  pub path : Text
  pub below : Place

-- An error of the keyword's own: its location, its name and its text.
pub record Own : Type 0 where
  pub spot : Spot
  pub name : Text
  pub text : Text

-- An error of the keyword's own, or one passed on from a child with its paths, place and text
-- unchanged.
pub data Fault : Type 0 where
  own : Own → Fault
  passed : Error → Fault

-- The content of the unit of one keyword, with the keyword's name.
pub record Named : Type 0 where
  pub name : Text
  pub valid : Bool
  pub children : List Unit_
  pub annotations : Option Data
  pub errors : List Described

-- The result of a keyword's evaluation: the content of its own unit, which has its own verdict, and
-- the units of the keywords that it absorbs, each with its own verdict, children, annotations and
-- errors.
pub record Gives : Type 0 where
  pub valid : Bool
  pub children : List Unit_
  pub annotations : Option Data
  pub errors : List Described
  pub absorbed : List Named

-- The keyword's own unit and all absorbed units are valid.
abbrev pub all_valid : Gives → Bool
all_valid g = g.valid && list_all (λ a. a.valid) g.absorbed

-- The outcome of each question.
abbrev pub Answers : Type 0
Answers = Question → Outcome

-- A mark that a run sets: on a child, named by the number of its request, or on a node number that
-- was pending or that the maker reserved, named by its position among the node numbers that the
-- maker received. If nothing is pending, each of these numbers has a key of its own, so two
-- positions are two marks.
pub data Marked : Type 0 where
  a_child : ℕ → Marked
  a_reservation : ℕ → Marked

-- A request for a match: its location, whether the evaluation path and the place are reported with
-- it, and the pattern as the schema writes it.
pub record MatchPoint : Type 0 where
  pub spot : Spot
  pub located : Bool
  pub pattern : Option Text

-- The reply to a turn: none, a truth value, the first error if there is one, all errors, or a unit.
pub data Reply : Type 0 where
  no_reply : Reply
  truth : Bool → Reply
  first_of_it : Option Error → Reply
  all_of_it : List Error → Reply
  unit_of_it : Unit_ → Reply

-- A turn of a run: it asks a question, requests a match, sets a mark, removes the latest mark, asks
-- whether a text is an ECMA-262 pattern, asks whether the other keywords of its schema span a member
-- or an item, or ends the run.
pub data Turn : Type 0 where
  ask : Question → Mode → Turn
  match_text : Pair → MatchPoint → Turn
  mark : Marked → Turn
  unmark : Turn
  ecma : Text → Turn
  is_spanned : Step → Turn
  done : Turn

-- What a keyword spans below its place: every member and item; one of them; one of them if a pair
-- matches, or if a child accepts it; what a child spans at the keyword's own place; or what a child
-- spans there, together with what the first of two others spans if that child accepts, and what the
-- second spans if it does not.
pub data Span : Type 0 where
  every : Span
  one : Step → Span
  one_matched : Pair → MatchPoint → Step → Span
  one_accepted : ℕ → Step → Span
  of_child : ℕ → Span
  of_choice : ℕ → Option ℕ → Option ℕ → Span

-- The question to a child at the keyword's own place.
abbrev pub child_here : ℕ → Question
child_here i = record { child = i; below = here }

-- The question to a child one step below.
abbrev pub child_at : ℕ → Step → Question
child_at i step = record { child = i; below = down step }

-- The first of two children if the condition is true, and the second if it is false.
abbrev pub chosen : Bool → Option ℕ → Option ℕ → Option ℕ
chosen true first second = first
chosen false first second = second

-- What a child spans at the keyword's own place, which is nothing if there is no child.
abbrev pub child_spans : Answers → Option ℕ → Step → Bool
child_spans answers None step = false
child_spans answers (Some i) step = (answers (child_here i)).spans step

-- The question to a child at the keyword's own place, if there is a child.
abbrev pub chosen_here : Option ℕ → List Question
chosen_here None = []
chosen_here (Some i) = child_here i ∷ []

-- A span contains a step.
abbrev pub spans_step : Matching → Answers → Step → Span → Bool
spans_step matches answers step every = true
spans_step matches answers step (one s) = same_step s step
spans_step matches answers step (one_matched a point s) = same_step s step && matches.matches a.pattern a.subject
spans_step matches answers step (one_accepted i s) = same_step s step && (answers (child_at i s)).verdict
spans_step matches answers step (of_child i) = (answers (child_here i)).spans step
spans_step matches answers step (of_choice i first second) = (answers (child_here i)).spans step || child_spans answers (chosen (answers (child_here i)).verdict first second) step

-- The questions on whose outcomes a span depends.
abbrev pub span_questions : Span → List Question
span_questions every = []
span_questions (one s) = []
span_questions (one_matched a point s) = []
span_questions (one_accepted i s) = child_at i s ∷ []
span_questions (of_child i) = child_here i ∷ []
span_questions (of_choice i first second) = child_here i ∷ (chosen_here first ++ chosen_here second)

-- The questions among these that a run for a span asks, by the verdict of the condition.
abbrev pub span_asked : (Question → Bool) → Span → List Question
span_asked accepts every = []
span_asked accepts (one s) = []
span_asked accepts (one_matched a point s) = []
span_asked accepts (one_accepted i s) = child_at i s ∷ []
span_asked accepts (of_child i) = child_here i ∷ []
span_asked accepts (of_choice i first second) = child_here i ∷ chosen_here (chosen (accepts (child_here i)) first second)

-- The same place, relative to a keyword.
abbrev pub same_below : Below → Below → Bool
same_below here here = true
same_below (down s) (down t) = same_step s t
same_below _ _ = false

-- The same child at the same place.
abbrev pub same_question : Question → Question → Bool
same_question a b = (a.child == b.child) && same_below a.below b.below

-- The answer at the end of a run, with the mode of the run.
pub record Answer : Type 0 where
  pub mode : Mode
  pub verdict : Bool
  pub errors : List Fault
  pub gives : Gives

-- The functions that define a keyword type. `K` is the type of a keyword, and `R` is the state of a
-- run, which contains the answer so far.
pub record Keywords (K R : Type 0) : Type 0 where
  -- Whether the texts of errors are covered. If fractions occur, they are not covered, and each
  -- text counts as empty.
  pub texts : Bool
  -- The questions that a keyword may ask of a subject.
  pub may_ask : K → Subject → List Question
  -- What a keyword spans if it holds.
  pub spans : K → Subject → List Span
  -- Whether a keyword is told what the keywords of its schema that are not told span.
  pub is_told : K → Bool
  -- Whether a keyword holds, given the matches and the verdicts of its questions.
  pub holds : K → Subject → Matching → (Question → Bool) → Bool
  -- The faults that a keyword finds, given the matches and the outcomes of its questions.
  pub faults : K → Subject → Matching → Answers → List Fault
  -- The result of a keyword's evaluation, given the matches and the units of its questions.
  pub units : K → Subject → Matching → (Question → Unit_) → Gives
  -- A bound on the number of turns of a run.
  pub most_turns : K → Subject → ℕ
  -- The state in which a run of a mode begins.
  pub begin : K → Subject → Mode → R
  -- The next state of a run, after the reply to the turn before.
  pub turn : K → Subject → R → Reply → R
  -- The next turn of a run, after the reply to the turn before.
  pub step : K → Subject → R → Reply → Turn
  -- The answer that a state contains.
  pub answer : R → Answer

-- A keyword spans the member or item at this step below its place.
abbrev pub keyword_spans : {K R : Type 0} → Keywords K R → K → Subject → Matching → Answers → Step → Bool
keyword_spans keywords m s matches answers step = list_any (spans_step matches answers step) (keywords.spans m s)

-- The questions of the functions in a solver's cycle, and their results: one record for each.
use Rattle.std.specs.List.{list_any}
use Rattle.std.specs.Prelude.{Bool, IfErr, IfOk, List, Option, Result, length, map, option_map, true, ℕ, ◌<◌, ◌==◌, ◌≡◌, ◌≤◌}
use Rattle.serde_json.specs.View.{view}
use Rattle.theory_definitions.specs.Instance.{Place, Subject}
use Rattle.theory_definitions.specs.Guarded.{Children, NodeEdge, NodeForm, NodePart, node_keyword}
use Rattle.theory_definitions.specs.Keywords.{Question, here}
use Rattle.theory_definitions.specs.Laws.{IsPresent, steps_below}
use Rattle.schema_reports.specs.InstanceViews.{subject_of}
use Rattle.schema_traits.specs.EdgeViews.{edge_of}
use Rattle.schema_traits.specs.KeywordViews.{below_of}
use Rattle.schema_traits.specs.declared.keyword.Below.{Below}
use Rattle.schema_traits.specs.declared.numbers.Edge.{Edge}
use Rattle.schema_traits.specs.Questions.{question_in}
use Rattle.schema_traits.specs.declared.asked.AskedQuestion.{AskedQuestion}
use Rattle.schema_node_table.specs.NodeTable.{shaped_form, shaped_part}
use Rattle.schema_node_table.specs.NodeViews.{entry_of, form_of}
use Rattle.schema_node_table.specs.declared.node.Entry.{Entry}
use Rattle.schema_run_steps.specs.EvaluationPlaces.{CarriesItsNumber, steps_to}
use Rattle.schema_run_steps.specs.NodeRuns.{HasChildren, HasForm, HasParts, form_at_work}
use Rattle.schema_run_steps.specs.declared.question.NamedKeyword.{NamedKeyword}
use Rattle.theory_fixed_points.specs.Under.{Solving}
use Rattle.theory_meaning.specs.Greatest.{IsMonotone}
use Rattle.theory_fixed_points.specs.Found.{Found}
use Rattle.theory_fixed_points.specs.Stages.{ChildTells, EdgeTells, FormTells, PairTells, PartsTell, Tells}
use Rattle.schema_solver_state.specs.Contexts.{Solver, found_of, solver_places}
use Rattle.schema_solver_state.specs.Saying.{WhatIsSaid}
use Rattle.schema_solver.specs.declared.question.Asked.{Asked}
use Rattle.schema_solver.specs.declared.question.Stopped.{Stopped}
use Rattle.schema_solver.specs.declared.question.Stopped.TheVariants.{Leans, Limit}
use Rattle.schema_solver.specs.Solving.{EachSays, Goes, HasEachCut, InEach, IsEdge, IsLate, MaySolve, Setting, StaysWithin}

-- a question at a place: a number, and the same as a pair; entries of a node, the form of an entry,
-- a keyword's child; and an edge
pub data Wanted (K : Type 0) : Type 0 where
  a_node a_pair : ℕ → Wanted K
  some_parts : ℕ → List (NodePart K) → Wanted K
  a_form : ℕ → NodeForm K → Wanted K
  a_child : ℕ → Children → Question → Wanted K
  an_edge : NodeEdge → Wanted K

-- the number that the question is about
abbrev pub number_in : {K : Type 0} → Wanted K → ℕ
number_in (a_node i) = i
number_in (a_pair i) = i
number_in (some_parts i xs) = i
number_in (a_form i form) = i
number_in (a_child i es q) = i
number_in (an_edge e) = e.node

-- that number is in the table, and a child's place is in the subject
abbrev pub StandsIn : {K R : Type 0} → Setting K R → Subject → Wanted K → Type 0
StandsIn g s (a_node i) = Unit {0}
StandsIn g s (a_pair i) = (ns : List ℕ) → HasEachCut g ns → list_any (λ n. i == n) ns ≡ true
StandsIn g s (some_parts i xs) = HasParts g.nodes i xs
StandsIn g s (a_form i form) = HasForm g.nodes i form
StandsIn g s (a_child i es q) = HasChildren g.nodes i es × IsPresent s (steps_below q.below)
StandsIn g s (an_edge e) = IsEdge g e

-- the verdict of the question
abbrev pub says_of : {K R : Type 0} → Wanted K → Solving K R → Place → Found → WhatIsSaid → Type 0
says_of (a_node i) w p f s = Tells w f i p s.valid s.leans
says_of (a_pair i) w p f s = PairTells f i p s.valid s.leans
says_of (some_parts i xs) w p f s = PartsTell w p f xs s.valid s.leans
says_of (a_form i form) w p f s = FormTells w p f form s.valid s.leans
says_of (a_child i es q) w p f s = ChildTells w p f es q s.valid s.leans
says_of (an_edge e) w p f s = EdgeTells w p f e here s.valid s.leans

-- at least as many evaluations are under way as pairs are in progress; their count stays at the
-- greatest number of 64 bits
abbrev pub IsAsDeep : ℕ → Solver → Type 0
IsAsDeep depth c = depth < 18446744073709551615 → length c.in_progress ≤ depth

-- the question may be asked
pub record MayAsk {K R : Type 0} (g : Setting K R) (q : Asked) (a : Wanted K) (c : Solver) : Type 0 where
  pub may : MaySolve g c (subject_of q.instance) (steps_to q.place.now) (number_in a)
  pub carries : CarriesItsNumber (solver_places c) q.place.now
  pub deep : IsAsDeep q.depth c
  pub stands : StandsIn g (subject_of q.instance) a

-- why it stops, and in which state: not because of a provisional "valid", if each keyword says that
-- it is monotone; no more pairs were begun than allowed; and it stops only at a limit that is less
-- than the bound on pairs
pub record Stops {K R : Type 0} (g : Setting K R) (says_monotone : K → Bool) (c c' : Solver) (e : Stopped) : Type 0 where
  pub reason : EachSays says_monotone g.nodes g.count → ¬ (e ≡ Leans)
  pub within : StaysWithin g c c'
  pub late : e ≡ Limit → IsLate g c

-- a result: its effect on the context, the marks unchanged, what is true of it in each reading, and
-- why it stops
pub record Solved {K R T : Type 0} (g : Setting K R) (says_monotone : K → Bool) (p : Place) (c c' : Solver) (result : Result T Stopped) (says_this : T → Solving K R → Found → Type 0) : Type 0 where
  pub goes : IfOk result (λ _. Goes g p c c')
  pub marking : IfOk result (λ _. c'.marking ≡ c.marking)
  pub says : IfOk result (λ b. InEach g (view c'.root) (λ texts w. says_this b w (found_of c')))
  pub stops : IfErr result (Stops g says_monotone c c')

-- the result of turns, which leave marks; the answer may differ by the reading, and a provisional
-- one counts only if the keyword is monotone
pub record Turned {K R : Type 0} (g : Setting K R) (says_monotone : K → Bool) (p : Place) (c c' : Solver) (result : Result Bool Stopped) (m : K) (says_this : Bool → Bool → Solving K R → Found → Type 0) : Type 0 where
  pub goes : IfOk result (λ _. Goes g p c c')
  pub says : IfOk result (λ leans. InEach g (view c'.root) (λ texts w. (leans ≡ true → IsMonotone w.keywords m) → says_this texts leans w (found_of c')))
  pub stops : IfErr result (Stops g says_monotone c c')

-- the question is answered
abbrev pub Solves : {K R : Type 0} → Setting K R → (K → Bool) → Asked → Wanted K → Solver → Solver → Result WhatIsSaid Stopped → Type 0
Solves g says_monotone q a c c' result = Solved g says_monotone (steps_to q.place.now) c c' result (λ s w f. says_of a w (steps_to q.place.now) f s)

abbrev pub Turns : {C K R : Type 0} → Setting K R → (K → Bool) → Asked → (C → K) → NamedKeyword C → Solver → Solver → Result Bool Stopped → (Bool → Bool) → Type 0
Turns g says_monotone q shape k c c' result v = Turned g says_monotone (steps_to q.place.now) c c' result (shape k.keyword.now)
    (λ texts leans w f. FormTells w (steps_to q.place.now) f (form_at_work shape k) (v texts) leans)

-- ---- what is asked, by the values of the program

abbrev pub the_entries : {C K : Type 0} → (C → K) → ℕ → List (Entry C) → Wanted K
the_entries shape i es = some_parts i (map (shaped_part shape) (map entry_of es))

abbrev pub the_entry : {C K : Type 0} → (C → K) → ℕ → Entry C → Wanted K
the_entry shape i e = a_form i (shaped_form shape (form_of e.form))

abbrev pub the_keyword : {C K : Type 0} → (C → K) → ℕ → NamedKeyword C → Wanted K
the_keyword shape i k = a_form i (form_at_work shape k)

-- a keyword that asks questions, with its children
abbrev pub the_asker : {C K : Type 0} → (C → K) → ℕ → C → List (Option Edge) → Wanted K
the_asker shape i k es = a_form i (node_keyword (shape k) (map (option_map edge_of) es))

abbrev pub the_question : {K : Type 0} → ℕ → List (Option Edge) → AskedQuestion → Wanted K
the_question i es asked = a_child i (map (option_map edge_of) es) (question_in asked)

abbrev pub the_child : {K : Type 0} → ℕ → List (Option Edge) → ℕ → Below → Wanted K
the_child i es n below = a_child i (map (option_map edge_of) es) (record { child = n; below = below_of below })

abbrev pub the_edge : {K : Type 0} → Edge → Wanted K
the_edge e = an_edge (edge_of e)

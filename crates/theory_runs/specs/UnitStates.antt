-- What each function of an evaluation returns: units, depending on the setting and the question,
-- for every sufficient depth of questions.
use Rattle.std.specs.Prelude.{◌≡◌, ◌<◌, ◌≤◌, ℕ, Bool, List, map}
use Rattle.theory_definitions.specs.Instance.{Place, Subject, Text}
use Rattle.theory_definitions.specs.Keywords.{Below, Keywords, Mode, Question, Reply, all_of_it, first_of_it, for_all, for_first, for_units, for_verdict, here, truth, unit_of_it}
use Rattle.theory_definitions.specs.Laws.{IsRight}
use Rattle.theory_definitions.specs.Matching.{matching}
use Rattle.theory_meaning.specs.Numbered.{Ranked, left, subject_in}
use Rattle.theory_meaning.specs.Untold.{entries_alone}
use Rattle.theory_definitions.specs.Reports.{Outcome, Unit_, spans_nothing}
use Rattle.theory_definitions.specs.Runs.{first_error}
use Rattle.theory_definitions.specs.Units.{Entry, PartUnits, Valued, entry_units, no_unit}
use Rattle.schema_reports.specs.UnitViews.{unit_of}
use Rattle.schema_run_steps.specs.EntryUnits.{entry_units_of}
use Rattle.theory_definitions.specs.Guarded.{Children, NodeEdge, NodeForm, NodePart, Nodes, across, guarded_within, node_asked, node_part_units, node_valued, same_edge, yes_valued}
use Rattle.schema_reports.specs.declared.evaluation.EvaluationNode.{EvaluationNode}
use Rattle.schema_run_steps.specs.declared.evaluation_order.EntryUnits.{EntryUnits}
use Rattle.schema_traits.specs.KeywordViews.{answer_of, reply_of}
use Rattle.schema_run_steps.specs.NodeRuns.{Reading, Reads, child_says, edge_needs}
use Rattle.schema_run_context.specs.Progress.{Context, NoDeeper}
use Rattle.serde_json.specs.View.{view}
use Rattle.schema_run_steps.specs.Askings.{Asking, IsAskedOf}
use Rattle.theory_runs.specs.RunStates.{GoesOn, OfWholeRun, Setting, busy, settled_by}
use Rattle.schema_traits.specs.declared.keyword.Answer as code_answer
use Rattle.schema_traits.specs.declared.keyword.Reply as code

-- The units of nodes in a reading.
module _ {K R : Type 0} (words : Bool → Keywords K R) (nodes : Nodes K) (x : Reading) where
  -- The outcome and the unit of a node, given those of its edges.
  abbrev pub valued_here : ℕ → Text → Place → (NodeEdge → Below → Valued) → Valued
  valued_here = node_valued (words x.texts) x.matcher nodes (subject_in x.root) x.completion

  -- The outcome and the unit of a node with these nodes in progress.
  abbrev pub deep_valued : ℕ → Text → Place → List ℕ → Valued
  deep_valued = guarded_within (yes_valued nodes) valued_here x.depth

  -- The unit of a node with these nodes in progress.
  abbrev pub deep_unit : ℕ → Text → Place → List ℕ → Unit_
  deep_unit i path p busy = (deep_valued i path p busy).units

  -- The outcome and the unit of an edge.
  abbrev pub edge_valued : Text → Place → List ℕ → NodeEdge → Below → Valued
  edge_valued = across (yes_valued nodes) valued_here deep_valued

  -- The unit of an edge.
  abbrev pub edge_unit : Text → Place → List ℕ → NodeEdge → Below → Unit_
  edge_unit path p busy e b = (edge_valued path p busy e b).units

  -- The unit that answers a question of a keyword.
  abbrev pub child_unit : Text → Place → List ℕ → Children → Question → Unit_
  child_unit path p busy es = node_asked (words x.texts) x.matcher nodes (subject_in x.root) no_unit es (edge_unit path p busy)

  -- The units of a keyword or a reference.
  abbrev pub form_units : ℕ → Text → Place → List ℕ → Text → NodeForm K → PartUnits
  form_units i path p busy = node_part_units (words x.texts) x.matcher nodes (subject_in x.root) x.completion i path p (edge_unit path p busy) spans_nothing

  -- The units of several entries.
  abbrev pub parts_units : ℕ → Text → Place → List ℕ → List (NodePart K) → List Entry
  parts_units i path p busy = entries_alone (words x.texts) x.matcher nodes (subject_in x.root) x.completion i path p (edge_unit path p busy)

-- The reply of an outcome and a unit in a mode.
abbrev pub reply_with : Mode → Outcome → Unit_ → Reply
reply_with for_verdict o u = truth o.verdict
reply_with for_first o u = first_of_it (first_error o.errors)
reply_with for_all o u = all_of_it o.errors
reply_with for_units o u = unit_of_it u

-- The condition for evaluating a number: it belongs to the table, the table is ranked, no pair in
-- progress is deeper, units are wanted, the subject is at its place in the context's instance, and
-- the remembered verdicts are right for the subject at each place.
pub record MayEvaluate {K R : Type 0} (g : Setting K R) (q : Asking) (c : Context) (i : ℕ) : Type 0 where
  pub known : i < g.count
  pub ranked : Ranked g.nodes g.count
  pub above : NoDeeper q.place c.in_progress
  pub wanted : q.mode ≡ for_units
  pub stands : IsAskedOf (view c.root) q
  pub goes_on : GoesOn g q c

-- The condition for running the keyword of a number in any mode.
pub record MayAsk {K R : Type 0} (g : Setting K R) (q : Asking) (c : Context) (i : ℕ) : Type 0 where
  pub known : i < g.count
  pub ranked : Ranked g.nodes g.count
  pub above : NoDeeper q.place c.in_progress
  pub stands : IsAskedOf (view c.root) q
  pub goes_on : GoesOn g q c

module _ {K R : Type 0} (g : Setting K R) (q : Asking) (c : Context) where
  -- The fact holds in every reading in which the subject is at the place, at a depth that is
  -- sufficient for the number.
  abbrev InReadings : ℕ → (Reading → Type 0) → Type 0
  InReadings i fact = (x : Reading) → Reads g.is_whole g.nodes g.count (settled_by g q c) q.place q.subject x → left g.nodes g.count i q.subject (busy g q c) ≤ x.depth → fact x

  -- The unit is the one of this node.
  abbrev pub NodeGives : ℕ → EvaluationNode → Type 0
  NodeGives i u = (x : Reading) → Reads g.is_whole g.nodes g.count (settled_by g q c) q.place q.subject x → left g.nodes g.count i q.subject (busy g q c) < x.depth
      → unit_of x.texts u ≡ deep_unit g.words g.nodes x i q.path q.place (busy g q c)

  -- The unit is the one of this edge.
  abbrev pub EdgeGives : NodeEdge → EvaluationNode → Type 0
  EdgeGives e u = (x : Reading) → Reads g.is_whole g.nodes g.count (settled_by g q c) q.place q.subject x → edge_needs g.nodes g.count e q.subject (busy g q c) ≤ x.depth
      → unit_of x.texts u ≡ edge_unit g.words g.nodes x q.path q.place (busy g q c) e here

  -- The unit is the one that answers this question of a keyword.
  abbrev pub ChildGives : ℕ → Children → Question → EvaluationNode → Type 0
  ChildGives i es asked u = InReadings i (λ x. unit_of x.texts u ≡ child_unit g.words g.nodes x q.path q.place (busy g q c) es asked)

  -- The reply is that of a child, in the mode of its question.
  abbrev pub ChildTells : ℕ → Children → Question → code.Reply → Type 0
  ChildTells i es asked r = InReadings i (λ x. reply_of x.texts r ≡ reply_with q.mode (child_says g.words g.nodes x q.path q.place (busy g q c) es asked) (child_unit g.words g.nodes x q.path q.place (busy g q c) es asked))

  -- The units are those of this keyword or reference.
  abbrev pub FormGives : ℕ → Text → NodeForm K → EntryUnits → Type 0
  FormGives i name form units = InReadings i (λ x. entry_units_of x.texts units ≡ form_units g.words g.nodes x i q.path q.place (busy g q c) name form)

  -- The units are those of these entries.
  abbrev pub PartsGive : ℕ → List (NodePart K) → List EvaluationNode → Type 0
  PartsGive i xs us = InReadings i (λ x. map (unit_of x.texts) us ≡ entry_units (parts_units g.words g.nodes x i q.path q.place (busy g q c) xs))

  -- The answer of a keyword at its end is the right one for its mode.
  abbrev pub FindsRightly : ℕ → Children → K → code_answer.Answer → Type 0
  FindsRightly i es m a = InReadings i (λ x. IsRight (g.words x.texts) m q.subject (matching x.matcher x.completion) (child_says g.words g.nodes x q.path q.place (busy g q c) es) (child_unit g.words g.nodes x q.path q.place (busy g q c) es) (same_edge es) q.mode (answer_of x.texts a))

  -- If units are wanted, the answer is the result of the keyword's evaluation.
  abbrev pub FindsUnits : ℕ → Children → K → code_answer.Answer → Type 0
  FindsUnits i es m a = InReadings i (λ x. (answer_of x.texts a).gives ≡ (g.words x.texts).units m q.subject (matching x.matcher x.completion) (child_unit g.words g.nodes x q.path q.place (busy g q c) es))

  -- The unit of a whole run is the one of its nodes.
  abbrev pub RunGives : ℕ → EvaluationNode → Type 0
  RunGives i u = OfWholeRun g q c i (λ texts run. unit_of texts u ≡ run.units tt)

-- A request for the units of a subject, at a place and with a path.
abbrev pub evaluating : Subject → Place → Text → Asking
evaluating s p path = record { subject = s; place = p; path = path; mode = for_units }

use Rattle.std.proofs.Common.{◌≡◌, ◌≤◌, ◌+◌, ◌*◌, ◌++◌, ℕ, Bool, List, false, length, map, drop, option_map, Some}
use Rattle.std.specs.Prelude.{All}
use Rattle.serde_json.specs.Data.{Data}
use Rattle.theory_definitions.specs.Instance.{subject_at}
use Rattle.schema_reports.specs.InstanceViews.{subject_of}
use Rattle.theory_definitions.specs.Reports.{Outcome, spans_nothing}
use Rattle.schema_reports.specs.ReportViews.{BorrowsItsPlace}
use Rattle.theory_definitions.specs.Meaning.{both}
use Rattle.theory_meaning.specs.Numbered.{left, subject_in}
use Rattle.theory_definitions.specs.Guarded.{node_at, same_edge}
use Rattle.theory_definitions.specs.Runs.{Met, keyword_met, plan_met}
use Rattle.schema_run_steps.specs.EvaluationPlaces.{steps_to}
use Rattle.schema_run_context.specs.EvaluationPaths.{path_of}
use Rattle.schema_traits.specs.FaultViews.{errors_in, faults_in, PassesBorrowed}
use Rattle.schema_traits.specs.KeywordViews.{answer_of, mode_of, reply_of}
use Rattle.schema_node_table.specs.NodeTable.{numbered, shaped_part}
use Rattle.schema_traits.specs.EdgeViews.{edge_of}
use Rattle.schema_node_table.specs.NodeViews.{entry_of}
use Rattle.schema_run_context.specs.Matches.{MeetsEach, settling}
use Rattle.theory_runs.specs.NodeMeets.{child_run, parts_looked, reading}
use Rattle.schema_run_steps.specs.ReplyModes.{refuses}
use Rattle.schema_run_steps.specs.NodeRuns.{Reading, Reads, Replies, child_says, edge_needs, parts_say}
use Rattle.schema_run_steps.specs.Askings.{asking}
use Rattle.theory_runs.specs.RunStates.{StaysRight, setting}
use Rattle.theory_runs.specs.Visits.{LeadsNowhere}
use Rattle.theory_runs.proofs.KeywordMeets.{MeetsSoFar}
use Rattle.schema_run_context.specs.Progress.{busy_at}
use Rattle.schema_run_context.specs.Works.{Spends}
use Rattle.schema_run_steps.specs.Turning.{EvaluatesOn}
use Rattle.schema_run_steps.specs.EntryUnits.{placed_of}
use Rattle.theory_definitions.specs.UnitOrder.{each_placed, nothing_placed}
use Rattle.theory_runs.specs.UnitStates.{child_unit, parts_units}
use Rattle.schema_node.proofs.node.+run.Given as goal

abbrev pub decreases-run::run_child : goal.decreases-run::run_child
decreases-run::run_child g l = 20 * left (numbered g.K.Validate.shape l.engine.now.nodes.now) (length l.engine.now.nodes.now) l.node.0 (subject_of l.question.now.instance) (busy_at (steps_to l.question.now.place.now) l.context.now.in_progress) + 2

abbrev pub decreases-run::run_edge : goal.decreases-run::run_edge
decreases-run::run_edge g l = 20 * edge_needs (numbered g.K.Validate.shape l.engine.now.nodes.now) (length l.engine.now.nodes.now) (edge_of l.edge.now) (subject_of l.question.now.instance) (busy_at (steps_to l.question.now.place.now) l.context.now.in_progress)

abbrev pub decreases-run::run_refused : goal.decreases-run::run_refused
decreases-run::run_refused g l = 20 * edge_needs (numbered g.K.Validate.shape l.engine.now.nodes.now) (length l.engine.now.nodes.now) (edge_of l.edge.now) (subject_of l.question.now.instance) (busy_at (steps_to l.question.now.place.now) l.context.now.in_progress) + 1

abbrev pub decreases-run::run_entries : goal.decreases-run::run_entries
decreases-run::run_entries g l = 20 * left (numbered g.K.Validate.shape l.engine.now.nodes.now) (length l.engine.now.nodes.now) l.node.0 (subject_of l.question.now.instance) (busy_at (steps_to l.question.now.place.now) l.context.now.in_progress) + 9

abbrev pub decreases-run::run_entry : goal.decreases-run::run_entry
decreases-run::run_entry g l = 20 * left (numbered g.K.Validate.shape l.engine.now.nodes.now) (length l.engine.now.nodes.now) l.node.0 (subject_of l.question.now.instance) (busy_at (steps_to l.question.now.place.now) l.context.now.in_progress) + 8

abbrev pub decreases-run::run_form : goal.decreases-run::run_form
decreases-run::run_form g l = 20 * left (numbered g.K.Validate.shape l.engine.now.nodes.now) (length l.engine.now.nodes.now) l.node.0 (subject_of l.question.now.instance) (busy_at (steps_to l.question.now.place.now) l.context.now.in_progress) + 7

abbrev pub decreases-run::run_keyword : goal.decreases-run::run_keyword
decreases-run::run_keyword g l = 20 * left (numbered g.K.Validate.shape l.engine.now.nodes.now) (length l.engine.now.nodes.now) l.node.0 (subject_of l.question.now.instance) (busy_at (steps_to l.question.now.place.now) l.context.now.in_progress) + 6

abbrev pub decreases-run::run_node : goal.decreases-run::run_node
decreases-run::run_node g l = 20 * left (numbered g.K.Validate.shape l.engine.now.nodes.now) (length l.engine.now.nodes.now) l.node.0 (subject_of l.question.now.instance) (busy_at (steps_to l.question.now.place.now) l.context.now.in_progress) + 11

abbrev pub decreases-run::run_plan : goal.decreases-run::run_plan
decreases-run::run_plan g l = 20 * left (numbered g.K.Validate.shape l.engine.now.nodes.now) (length l.engine.now.nodes.now) l.node.0 (subject_of l.question.now.instance) (busy_at (steps_to l.question.now.place.now) l.context.now.in_progress) + 10

abbrev pub decreases-turns::keyword_answer : goal.decreases-turns::keyword_answer
decreases-turns::keyword_answer g l = 20 * left (numbered g.K.Validate.shape l.engine.now.nodes.now) (length l.engine.now.nodes.now) l.node.0 (subject_of l.question.now.instance) (busy_at (steps_to l.question.now.place.now) l.context.now.in_progress) + 5

abbrev pub decreases-turns::run_turns : goal.decreases-turns::run_turns
decreases-turns::run_turns g l = 20 * left (numbered g.K.Validate.shape l.engine.now.nodes.now) (length l.engine.now.nodes.now) l.node.0 (subject_of l.question.now.instance) (busy_at (steps_to l.question.now.place.now) l.context.now.in_progress) + 4

abbrev pub invariant-run::run_entries-loop-entry : goal.invariant-run::run_entries-loop-entry
invariant-run::run_entries-loop-entry g l =
    let ns = numbered g.K.Validate.shape l.engine.nodes.now in
    let busy = busy_at (steps_to l.question.place.now) l.initial.context.in_progress in
    let s = subject_of l.question.instance in
    let w = settling (g.M.Matcher.matching l.engine.matcher.now) l.initial.context.remembered.assumptions in
    record {
      root : l.context.root ≡ l.initial.context.root;
      kept : l.context.in_progress ≡ l.initial.context.in_progress;
      assumes : l.context.remembered.assumptions ≡ l.initial.context.remembered.assumptions;
      marking : l.context.marking ≡ l.initial.context.marking;
      counted : l.initial.context.visits ≤ l.context.visits;
      worked : Spends l.initial.context.work l.context.work;
      so_far : (x : Reading) → Reads g.K.Validate.is_whole ns (length l.engine.nodes.now) w (steps_to l.question.place.now) s x → left ns (length l.engine.nodes.now) l.node.0 s busy ≤ x.depth
          → (o : Outcome) × Replies x (mode_of l.question.mode) l.found o
          × (both o (parts_say g.K.Validate.words ns x l.node.0 (path_of l.question.path.now) (steps_to l.question.place.now) busy (map (shaped_part g.K.Validate.shape) (map entry_of (drop l.entry-index l.entries))))
          ≡ parts_say g.K.Validate.words ns x l.node.0 (path_of l.question.path.now) (steps_to l.question.place.now) busy (map (shaped_part g.K.Validate.shape) (map entry_of l.entries)));
      unsettled : (texts : Bool) → refuses (reply_of texts l.found) ≡ false;
      stays : StaysRight (setting g.K.Validate.words g.K.Validate.is_whole g.K.Validate.shape g.M.Matcher.matching l.engine) (asking l.question) l.initial.context l.context;
      met : (texts : Bool) (root : Data) (depth : ℕ) → Reads g.K.Validate.is_whole ns (length l.engine.nodes.now) w (steps_to l.question.place.now) s (reading w texts root depth) → left ns (length l.engine.nodes.now) l.node.0 s busy ≤ depth
          → (before : List Met) × MeetsEach w.matcher l.initial.context.remembered before l.context.remembered
          × (before ++ plan_met (mode_of l.question.mode) (parts_looked g.K.Validate.words ns w texts root depth l.node.0 (path_of l.question.path.now) (steps_to l.question.place.now) busy (map (shaped_part g.K.Validate.shape) (map entry_of (drop l.entry-index l.entries))))
          ≡ plan_met (mode_of l.question.mode) (parts_looked g.K.Validate.words ns w texts root depth l.node.0 (path_of l.question.path.now) (steps_to l.question.place.now) busy (map (shaped_part g.K.Validate.shape) (map entry_of l.entries))));
    }

abbrev pub invariant-turns::run_turns-turns : goal.invariant-turns::run_turns-turns
invariant-turns::run_turns-turns g l =
    let ns = numbered g.K.Validate.shape l.engine.nodes.now in
    let busy = busy_at (steps_to l.question.place.now) l.initial.context.in_progress in
    let s = subject_of l.question.instance in
    let m = g.K.Validate.shape l.keyword.keyword.now in
    let w = settling (g.M.Matcher.matching l.engine.matcher.now) l.initial.context.remembered.assumptions in
    let es = map (option_map edge_of) l.keyword.children.now in
    record {
      root : l.context.root ≡ l.initial.context.root;
      kept : l.context.in_progress ≡ l.initial.context.in_progress;
      assumes : l.context.remembered.assumptions ≡ l.initial.context.remembered.assumptions;
      counted : l.initial.context.visits ≤ l.context.visits;
      worked : Spends l.initial.context.work l.context.work;
      quiet : LeadsNowhere es → l.context.visits ≡ l.initial.context.visits;
      stays : StaysRight (setting g.K.Validate.words g.K.Validate.is_whole g.K.Validate.shape g.M.Matcher.matching l.engine) (asking l.question) l.initial.context l.context;
      can : g.K.Validate.can_be false m s (l.run, answer_of false l.answer);
      borrows : (root : Data) → subject_at root (steps_to l.question.place.now) ≡ Some (subject_of l.question.instance) → All (BorrowsItsPlace root) (errors_in l.reply) × All (PassesBorrowed root) (faults_in l.answer);
      leads : (x : Reading) → Reads g.K.Validate.is_whole ns (length l.engine.nodes.now) w (steps_to l.question.place.now) s x → left ns (length l.engine.nodes.now) l.node.0 s busy ≤ x.depth
          → EvaluatesOn (g.K.Validate.words x.texts) m (g.K.Validate.can_be x.texts m) (g.K.Validate.ends x.texts m) (g.K.Validate.fits x.texts m) s x (mode_of l.fn.question.mode)
          (child_says g.K.Validate.words ns x (path_of l.question.path.now) (steps_to l.question.place.now) busy es) (child_unit g.K.Validate.words ns x (path_of l.question.path.now) (steps_to l.question.place.now) busy es) (same_edge es) l.context.marking (l.run, answer_of x.texts l.answer) (reply_of x.texts l.reply);
      met : (texts : Bool) (root : Data) (depth : ℕ) → Reads g.K.Validate.is_whole ns (length l.engine.nodes.now) w (steps_to l.question.place.now) s (reading w texts root depth) → left ns (length l.engine.nodes.now) l.node.0 s busy ≤ depth
          → MeetsSoFar (g.K.Validate.words texts) w.matcher w.assumptions (node_at (g.K.Validate.words texts) w.matcher ns (subject_in root) l.node.0 (path_of l.question.path.now) (steps_to l.question.place.now)) s (child_run g.K.Validate.words ns w texts root depth (path_of l.question.path.now) (steps_to l.question.place.now) busy es) (same_edge es) l.keyword.name.now m (g.K.Validate.remaining m s) l.initial.context.remembered
          (keyword_met (g.K.Validate.words texts) w.matcher w.assumptions (node_at (g.K.Validate.words texts) w.matcher ns (subject_in root) l.node.0 (path_of l.question.path.now) (steps_to l.question.place.now)) s (child_run g.K.Validate.words ns w texts root depth (path_of l.question.path.now) (steps_to l.question.place.now) busy es) spans_nothing (same_edge es) l.keyword.name.now m (mode_of l.fn.question.mode))
          l.context.remembered l.context.marking (l.run, answer_of texts l.answer) (reply_of texts l.reply);
    }

abbrev pub decreases-turns::run_turns-turns : goal.decreases-turns::run_turns-turns
decreases-turns::run_turns-turns g l = g.K.Validate.remaining (g.K.Validate.shape l.keyword.keyword.now) (subject_of l.question.instance) (l.run, answer_of false l.answer)

abbrev pub decreases-evaluate::evaluate_node : goal.decreases-evaluate::evaluate_node
decreases-evaluate::evaluate_node g l = 20 * left (numbered g.K.Validate.shape l.engine.now.nodes.now) (length l.engine.now.nodes.now) l.node.0 (subject_of l.question.now.instance) (busy_at (steps_to l.question.now.place.now) l.context.now.in_progress) + 11

abbrev pub decreases-evaluate::evaluate_plan : goal.decreases-evaluate::evaluate_plan
decreases-evaluate::evaluate_plan g l = 20 * left (numbered g.K.Validate.shape l.engine.now.nodes.now) (length l.engine.now.nodes.now) l.node.0 (subject_of l.question.now.instance) (busy_at (steps_to l.question.now.place.now) l.context.now.in_progress) + 10

abbrev pub decreases-evaluate::evaluate_entries : goal.decreases-evaluate::evaluate_entries
decreases-evaluate::evaluate_entries g l = 20 * left (numbered g.K.Validate.shape l.engine.now.nodes.now) (length l.engine.now.nodes.now) l.node.0 (subject_of l.question.now.instance) (busy_at (steps_to l.question.now.place.now) l.context.now.in_progress) + 9

abbrev pub decreases-evaluate::evaluate_entry : goal.decreases-evaluate::evaluate_entry
decreases-evaluate::evaluate_entry g l = 20 * left (numbered g.K.Validate.shape l.engine.now.nodes.now) (length l.engine.now.nodes.now) l.node.0 (subject_of l.question.now.instance) (busy_at (steps_to l.question.now.place.now) l.context.now.in_progress) + 8

abbrev pub decreases-evaluate::evaluate_keyword : goal.decreases-evaluate::evaluate_keyword
decreases-evaluate::evaluate_keyword g l = 20 * left (numbered g.K.Validate.shape l.engine.now.nodes.now) (length l.engine.now.nodes.now) l.node.0 (subject_of l.question.now.instance) (busy_at (steps_to l.question.now.place.now) l.context.now.in_progress) + 6

abbrev pub decreases-turns::ask_child : goal.decreases-turns::ask_child
decreases-turns::ask_child g l = 20 * left (numbered g.K.Validate.shape l.engine.now.nodes.now) (length l.engine.now.nodes.now) l.node.0 (subject_of l.question.now.instance) (busy_at (steps_to l.question.now.place.now) l.context.now.in_progress) + 3

abbrev pub decreases-evaluate::evaluate_child : goal.decreases-evaluate::evaluate_child
decreases-evaluate::evaluate_child g l = 20 * left (numbered g.K.Validate.shape l.engine.now.nodes.now) (length l.engine.now.nodes.now) l.node.0 (subject_of l.question.now.instance) (busy_at (steps_to l.question.now.place.now) l.context.now.in_progress) + 1

abbrev pub decreases-evaluate::evaluate_edge : goal.decreases-evaluate::evaluate_edge
decreases-evaluate::evaluate_edge g l = 20 * edge_needs (numbered g.K.Validate.shape l.engine.now.nodes.now) (length l.engine.now.nodes.now) (edge_of l.edge.now) (subject_of l.question.now.instance) (busy_at (steps_to l.question.now.place.now) l.context.now.in_progress)

abbrev pub invariant-evaluate::evaluate_entries-loop-entry : goal.invariant-evaluate::evaluate_entries-loop-entry
invariant-evaluate::evaluate_entries-loop-entry g l =
    let ns = numbered g.K.Validate.shape l.engine.nodes.now in
    let busy = busy_at (steps_to l.question.place.now) l.initial.context.in_progress in
    let s = subject_of l.question.instance in
    let w = settling (g.M.Matcher.matching l.engine.matcher.now) l.initial.context.remembered.assumptions in
    record {
      root : l.context.root ≡ l.initial.context.root;
      kept : l.context.in_progress ≡ l.initial.context.in_progress;
      assumes : l.context.remembered.assumptions ≡ l.initial.context.remembered.assumptions;
      marking : l.context.marking ≡ l.initial.context.marking;
      counted : l.initial.context.visits ≤ l.context.visits;
      worked : Spends l.initial.context.work l.context.work;
      so_far : (x : Reading) → Reads g.K.Validate.is_whole ns (length l.engine.nodes.now) w (steps_to l.question.place.now) s x → left ns (length l.engine.nodes.now) l.node.0 s busy ≤ x.depth
          → each_placed (placed_of x.texts l.units) (parts_units g.K.Validate.words ns x l.node.0 (path_of l.question.path.now) (steps_to l.question.place.now) busy (map (shaped_part g.K.Validate.shape) (map entry_of (drop l.entry-index l.entries))))
          ≡ each_placed nothing_placed (parts_units g.K.Validate.words ns x l.node.0 (path_of l.question.path.now) (steps_to l.question.place.now) busy (map (shaped_part g.K.Validate.shape) (map entry_of l.entries)));
      stays : StaysRight (setting g.K.Validate.words g.K.Validate.is_whole g.K.Validate.shape g.M.Matcher.matching l.engine) (asking l.question) l.initial.context l.context;
      met : (texts : Bool) (root : Data) (depth : ℕ) → Reads g.K.Validate.is_whole ns (length l.engine.nodes.now) w (steps_to l.question.place.now) s (reading w texts root depth) → left ns (length l.engine.nodes.now) l.node.0 s busy ≤ depth
          → (before : List Met) × MeetsEach w.matcher l.initial.context.remembered before l.context.remembered
          × (before ++ plan_met (mode_of l.question.mode) (parts_looked g.K.Validate.words ns w texts root depth l.node.0 (path_of l.question.path.now) (steps_to l.question.place.now) busy (map (shaped_part g.K.Validate.shape) (map entry_of (drop l.entry-index l.entries))))
          ≡ plan_met (mode_of l.question.mode) (parts_looked g.K.Validate.words ns w texts root depth l.node.0 (path_of l.question.path.now) (steps_to l.question.place.now) busy (map (shaped_part g.K.Validate.shape) (map entry_of l.entries))));
    }

abbrev pub decreases-turns::ask_unit : goal.decreases-turns::ask_unit
decreases-turns::ask_unit g l = 20 * left (numbered g.K.Validate.shape l.engine.now.nodes.now) (length l.engine.now.nodes.now) l.node.0 (subject_of l.question.now.instance) (busy_at (steps_to l.question.now.place.now) l.context.now.in_progress) + 2

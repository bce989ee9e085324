use Rattle.std.proofs.Common.{◌≡◌, ◌+◌, ◌*◌, ◌<◌, ◌++◌, List, drop, length, map, false, true, option_map}
use Rattle.std.specs.Prelude.{IfSome}
use Rattle.serde_json.specs.View.{view}
use Rattle.theory_meaning.specs.Numbered.{left}
use Rattle.schema_reports.specs.InstanceViews.{subject_of}
use Rattle.schema_traits.specs.EdgeViews.{edge_of}
use Rattle.schema_run_context.specs.Progress.{busy_at}
use Rattle.schema_node_table.specs.NodeTable.{numbered, shaped_part}
use Rattle.schema_node_table.specs.NodeViews.{entry_of}
use Rattle.schema_node_table.specs.declared.node.Entry.{Entry}
use Rattle.schema_run_steps.specs.EvaluationPlaces.{steps_to}
use Rattle.schema_solver.specs.Asked.{is_followed_in, solver_by}
use Rattle.schema_solver_state.specs.Contexts.{found_of}
use Rattle.schema_solver.specs.Needs.{SaysByTheRest, SaysTheRest, edge_needs, pair_needs}
use Rattle.schema_solver.specs.Solving.{Goes, InEach, is_cut}
use Rattle.schema_solver.specs.ToldAtOnce.{waiting}
use Rattle.schema_traits.specs.KeywordViews.{answer_of}
use Rattle.schema_run_steps.specs.VerdictRuns.{told_reply}
use Rattle.schema_solver.specs.TurningOn.{AsksOn, TurnsOn}
use Rattle.schema_solver.proofs.solve.+verdict.Given as goal

abbrev pub decreases-asking::solve_asked : goal.decreases-asking::solve_asked
decreases-asking::solve_asked g l = 20 * left (numbered g.K.Validate.shape l.engine.now.nodes.now) (length l.engine.now.nodes.now) l.node.0 (subject_of l.question.now.instance) (busy_at (steps_to l.question.now.place.now) l.context.now.in_progress) + 6

abbrev pub decreases-asking::solve_counted : goal.decreases-asking::solve_counted
decreases-asking::solve_counted g l = 20 * left (numbered g.K.Validate.shape l.engine.now.nodes.now) (length l.engine.now.nodes.now) l.node.0 (subject_of l.question.now.instance) (busy_at (steps_to l.question.now.place.now) l.context.now.in_progress) + 4

abbrev pub decreases-asking::solve_members : goal.decreases-asking::solve_members
decreases-asking::solve_members g l = 20 * left (numbered g.K.Validate.shape l.engine.now.nodes.now) (length l.engine.now.nodes.now) l.node.0 (subject_of l.question.now.instance) (busy_at (steps_to l.question.now.place.now) l.context.now.in_progress) + 4

abbrev pub decreases-asking::solve_names : goal.decreases-asking::solve_names
decreases-asking::solve_names g l = 20 * left (numbered g.K.Validate.shape l.engine.now.nodes.now) (length l.engine.now.nodes.now) l.node.0 (subject_of l.question.now.instance) (busy_at (steps_to l.question.now.place.now) l.context.now.in_progress) + 4

abbrev pub decreases-asking::solve_there : goal.decreases-asking::solve_there
decreases-asking::solve_there g l = 20 * left (numbered g.K.Validate.shape l.engine.now.nodes.now) (length l.engine.now.nodes.now) l.node.0 (subject_of l.question.now.instance) (busy_at (steps_to l.question.now.place.now) l.context.now.in_progress) + 3

abbrev pub decreases-edges::solve_child : goal.decreases-edges::solve_child
decreases-edges::solve_child g l = 20 * left (numbered g.K.Validate.shape l.engine.now.nodes.now) (length l.engine.now.nodes.now) l.node.0 (subject_of l.question.now.instance) (busy_at (steps_to l.question.now.place.now) l.context.now.in_progress) + 3

abbrev pub decreases-edges::solve_edge : goal.decreases-edges::solve_edge
decreases-edges::solve_edge g l = 20 * edge_needs (is_cut (is_followed_in l.engine.now.followed.now)) (numbered g.K.Validate.shape l.engine.now.nodes.now) (length l.engine.now.nodes.now) (edge_of l.edge.now) (subject_of l.question.now.instance) (busy_at (steps_to l.question.now.place.now) l.context.now.in_progress) + 2

abbrev pub decreases-edges::begin_pair : goal.decreases-edges::begin_pair
decreases-edges::begin_pair g l = 20 * pair_needs (numbered g.K.Validate.shape l.engine.now.nodes.now) (length l.engine.now.nodes.now) l.node.0 (subject_of l.question.now.instance) (busy_at (steps_to l.question.now.place.now) l.context.now.in_progress)

abbrev pub decreases-edges::solve_pair : goal.decreases-edges::solve_pair
decreases-edges::solve_pair g l = 20 * pair_needs (numbered g.K.Validate.shape l.engine.now.nodes.now) (length l.engine.now.nodes.now) l.node.0 (subject_of l.question.now.instance) (busy_at (steps_to l.question.now.place.now) l.context.now.in_progress) + 1

abbrev pub decreases-entries::solve_entries : goal.decreases-entries::solve_entries
decreases-entries::solve_entries g l = 20 * left (numbered g.K.Validate.shape l.engine.now.nodes.now) (length l.engine.now.nodes.now) l.node.0 (subject_of l.question.now.instance) (busy_at (steps_to l.question.now.place.now) l.context.now.in_progress) + 10

abbrev pub decreases-entries::solve_left : goal.decreases-entries::solve_left
decreases-entries::solve_left g l = 20 * left (numbered g.K.Validate.shape l.engine.now.nodes.now) (length l.engine.now.nodes.now) l.node.0 (subject_of l.question.now.instance) (busy_at (steps_to l.question.now.place.now) l.context.now.in_progress) + 9

abbrev pub decreases-entries::solve_form : goal.decreases-entries::solve_form
decreases-entries::solve_form g l = 20 * left (numbered g.K.Validate.shape l.engine.now.nodes.now) (length l.engine.now.nodes.now) l.node.0 (subject_of l.question.now.instance) (busy_at (steps_to l.question.now.place.now) l.context.now.in_progress) + 8

abbrev pub decreases-entries::solve_keyword : goal.decreases-entries::solve_keyword
decreases-entries::solve_keyword g l = 20 * left (numbered g.K.Validate.shape l.engine.now.nodes.now) (length l.engine.now.nodes.now) l.node.0 (subject_of l.question.now.instance) (busy_at (steps_to l.question.now.place.now) l.context.now.in_progress) + 7

abbrev pub decreases-entries::solve_node : goal.decreases-entries::solve_node
decreases-entries::solve_node g l = 20 * left (numbered g.K.Validate.shape l.engine.now.nodes.now) (length l.engine.now.nodes.now) l.node.0 (subject_of l.question.now.instance) (busy_at (steps_to l.question.now.place.now) l.context.now.in_progress) + 11

abbrev pub decreases-entries::solve_node_apart : goal.decreases-entries::solve_node_apart
decreases-entries::solve_node_apart g l = 20 * left (numbered g.K.Validate.shape l.engine.now.nodes.now) (length l.engine.now.nodes.now) l.node.0 (subject_of l.question.now.instance) (busy_at (steps_to l.question.now.place.now) l.context.now.in_progress) + 12

abbrev pub decreases-entries::solve_reference : goal.decreases-entries::solve_reference
decreases-entries::solve_reference g l = 20 * edge_needs (is_cut (is_followed_in l.engine.now.followed.now)) (numbered g.K.Validate.shape l.engine.now.nodes.now) (length l.engine.now.nodes.now) (edge_of l.edge.now) (subject_of l.question.now.instance) (busy_at (steps_to l.question.now.place.now) l.context.now.in_progress) + 3

abbrev pub decreases-turns::solver_answer : goal.decreases-turns::solver_answer
decreases-turns::solver_answer g l = 20 * left (numbered g.K.Validate.shape l.engine.now.nodes.now) (length l.engine.now.nodes.now) l.node.0 (subject_of l.question.now.instance) (busy_at (steps_to l.question.now.place.now) l.context.now.in_progress) + 5

abbrev pub decreases-turns::solver_turns : goal.decreases-turns::solver_turns
decreases-turns::solver_turns g l = 20 * left (numbered g.K.Validate.shape l.engine.now.nodes.now) (length l.engine.now.nodes.now) l.node.0 (subject_of l.question.now.instance) (busy_at (steps_to l.question.now.place.now) l.context.now.in_progress) + 4

abbrev pub invariant-entries::solve_entries-loop-place :
    goal.invariant-entries::solve_entries-loop-place
invariant-entries::solve_entries-loop-place g l =
    let set = solver_by g.K.Validate g.M.Matcher l.engine in
    let p = steps_to l.question.place.now in
    let parts = λ (es : List (Entry g.row.K.Denot)). map (shaped_part g.K.Validate.shape) (map entry_of es) in
    record {
      goes : Goes set p l.initial.context l.context;
      marking : l.context.marking ≡ l.initial.context.marking;
      leads : InEach set (view l.context.root) (λ texts w. SaysTheRest w p (found_of l.context) false (parts l.entries) (parts (waiting l.waits l.entries) ++ parts (drop l.place l.entries)));
      since : IfSome l.waits (λ k. (k < length l.entries) × InEach set (view l.context.root) (λ texts w. SaysTheRest w p (found_of l.context) false (parts l.entries) (parts (drop k l.entries))));
    }

abbrev pub invariant-entries::solve_left-loop-entry :
    goal.invariant-entries::solve_left-loop-entry
invariant-entries::solve_left-loop-entry g l =
    let set = solver_by g.K.Validate g.M.Matcher l.engine in
    let p = steps_to l.question.place.now in
    record {
      goes : Goes set p l.initial.context l.context;
      marking : l.context.marking ≡ l.initial.context.marking;
      leads : InEach set (view l.context.root) (λ texts w. SaysTheRest w p (found_of l.context) l.leans (map (shaped_part g.K.Validate.shape) (map entry_of l.entries)) (map (shaped_part g.K.Validate.shape) (map entry_of (drop l.entry-index l.entries))));
    }

abbrev pub invariant-asking::solve_counted-loop-asked :
    goal.invariant-asking::solve_counted-loop-asked
invariant-asking::solve_counted-loop-asked g l =
    let set = solver_by g.K.Validate g.M.Matcher l.engine in
    let p = steps_to l.question.place.now in
    record {
      goes : Goes set p l.initial.context l.context;
      marking : l.context.marking ≡ l.initial.context.marking;
      there : l.questions.subject ≡ subject_of l.question.instance;
      leads : InEach set (view l.context.root) (λ texts w. SaysByTheRest w p (found_of l.context) (g.K.Validate.shape l.keyword) (map (option_map edge_of) l.children) l.all l.leans l.questions.left);
    }

abbrev pub decreases-asking::solve_counted-loop-asked :
    goal.decreases-asking::solve_counted-loop-asked
decreases-asking::solve_counted-loop-asked g l = length l.questions.left

abbrev pub invariant-asking::solve_members-loop-asked :
    goal.invariant-asking::solve_members-loop-asked
invariant-asking::solve_members-loop-asked g l =
    let set = solver_by g.K.Validate g.M.Matcher l.engine in
    let p = steps_to l.question.place.now in
    record {
      goes : Goes set p l.initial.context l.context;
      marking : l.context.marking ≡ l.initial.context.marking;
      there : l.questions.subject ≡ subject_of l.question.instance;
      leads : InEach set (view l.context.root) (λ texts w. SaysByTheRest w p (found_of l.context) (g.K.Validate.shape l.keyword) (map (option_map edge_of) l.children.items) true l.leans l.questions.left);
    }

abbrev pub decreases-asking::solve_members-loop-asked :
    goal.decreases-asking::solve_members-loop-asked
decreases-asking::solve_members-loop-asked g l = length l.questions.left

abbrev pub invariant-asking::solve_names-loop-asked :
    goal.invariant-asking::solve_names-loop-asked
invariant-asking::solve_names-loop-asked g l =
    let set = solver_by g.K.Validate g.M.Matcher l.engine in
    let p = steps_to l.question.place.now in
    record {
      goes : Goes set p l.initial.context l.context;
      marking : l.context.marking ≡ l.initial.context.marking;
      there : l.questions.subject ≡ subject_of l.question.instance;
      leads : InEach set (view l.context.root) (λ texts w. SaysByTheRest w p (found_of l.context) (g.K.Validate.shape l.keyword) (map (option_map edge_of) l.children) true l.leans l.questions.left);
    }

abbrev pub decreases-asking::solve_names-loop-asked :
    goal.decreases-asking::solve_names-loop-asked
decreases-asking::solve_names-loop-asked g l = length l.questions.left

abbrev pub invariant-turns::solver_turns-turns : goal.invariant-turns::solver_turns-turns
invariant-turns::solver_turns-turns g l =
    let set = solver_by g.K.Validate g.M.Matcher l.engine in
    let p = steps_to l.question.place.now in
    let s = subject_of l.question.instance in
    let m = g.K.Validate.shape l.keyword.keyword.now in
    let es = map (option_map edge_of) l.keyword.children.now in
    record {
      goes : Goes set p l.initial.context l.context;
      can : g.K.Validate.can_be false m s (l.run, answer_of false l.answer);
      asks : AsksOn set m s (g.K.Validate.remaining m s (l.run, answer_of false l.answer)) (l.run, answer_of false l.answer) (told_reply l.told);
      leads : TurnsOn set m (view l.initial.context.root) p (λ texts. g.K.Validate.ends texts m) (λ texts. g.K.Validate.fits texts m) es l.context l.leans l.context.marking (λ texts. (l.run, answer_of texts l.answer)) (λ texts. told_reply l.told);
    }

abbrev pub decreases-turns::solver_turns-turns : goal.decreases-turns::solver_turns-turns
decreases-turns::solver_turns-turns g l = g.K.Validate.remaining (g.K.Validate.shape l.keyword.keyword.now) (subject_of l.question.instance) (l.run, answer_of false l.answer)

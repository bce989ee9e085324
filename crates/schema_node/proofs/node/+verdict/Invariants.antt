use Rattle.std.proofs.Common.{◌≡◌, ◌≤◌, ◌<◌, ◌+◌, ◌*◌, ◌++◌, ℕ, Bool, List, false, true, length, map, drop, option_map}
use Rattle.serde_json.specs.Data.{Data}
use Rattle.schema_reports.specs.InstanceViews.{subject_of}
use Rattle.theory_definitions.specs.Reports.{Outcome, spans_nothing}
use Rattle.theory_definitions.specs.Meaning.{both}
use Rattle.theory_meaning.specs.Numbered.{left, subject_in}
use Rattle.theory_definitions.specs.Guarded.{node_at, same_edge}
use Rattle.theory_definitions.specs.Runs.{Met, keyword_met, plan_met}
use Rattle.schema_run_steps.specs.EvaluationPlaces.{steps_to}
use Rattle.schema_run_context.specs.EvaluationPaths.{path_of}
use Rattle.schema_traits.specs.KeywordViews.{answer_of, mode_of}
use Rattle.schema_node_table.specs.NodeTable.{numbered, shaped_part}
use Rattle.schema_traits.specs.EdgeViews.{edge_of}
use Rattle.schema_node_table.specs.NodeViews.{entry_of}
use Rattle.schema_run_context.specs.Matches.{MeetsEach, settling}
use Rattle.theory_runs.specs.NodeMeets.{child_run, parts_looked, reading}
use Rattle.schema_run_steps.specs.NodeRuns.{Reading, Reads, Replies, child_says, edge_needs, parts_say}
use Rattle.schema_run_steps.specs.Askings.{asking}
use Rattle.theory_runs.specs.RunStates.{Keeps, PartsRemember, StaysRight, setting}
use Rattle.schema_run_steps.specs.VerdictRuns.{told_reply}
use Rattle.theory_runs.specs.VerdictTurns.{AsksVerdictsOn}
use Rattle.theory_runs.specs.Visits.{LeadsNowhere, PartsCount}
use Rattle.theory_runs.proofs.AskedAtOnce.{MeetsNothing, SaysByTheRest}
use Rattle.theory_runs.proofs.KeywordMeets.{MeetsSoFar}
use Rattle.schema_run_context.specs.Progress.{busy_at}
use Rattle.schema_run_context.specs.Works.{Spends}
use Rattle.schema_run_steps.specs.Turning.{EvaluatesOn}
use Rattle.theory_runs.specs.UnitStates.{child_unit}
use Rattle.schema_traits.specs.declared.keyword.Reply.TheVariants as told
use Rattle.schema_node.proofs.node.+verdict.Given as goal

abbrev pub decreases-verdict::verdict_node : goal.decreases-verdict::verdict_node
decreases-verdict::verdict_node g l = 20 * left (numbered g.K.Validate.shape l.engine.now.nodes.now) (length l.engine.now.nodes.now) l.node.0 (subject_of l.question.now.instance) (busy_at (steps_to l.question.now.place.now) l.context.now.in_progress) + 11

abbrev pub decreases-verdict::verdict_plan : goal.decreases-verdict::verdict_plan
decreases-verdict::verdict_plan g l = 20 * left (numbered g.K.Validate.shape l.engine.now.nodes.now) (length l.engine.now.nodes.now) l.node.0 (subject_of l.question.now.instance) (busy_at (steps_to l.question.now.place.now) l.context.now.in_progress) + 10

abbrev pub decreases-verdict::verdict_entries : goal.decreases-verdict::verdict_entries
decreases-verdict::verdict_entries g l = 20 * left (numbered g.K.Validate.shape l.engine.now.nodes.now) (length l.engine.now.nodes.now) l.node.0 (subject_of l.question.now.instance) (busy_at (steps_to l.question.now.place.now) l.context.now.in_progress) + 9

abbrev pub decreases-verdict::verdict_form : goal.decreases-verdict::verdict_form
decreases-verdict::verdict_form g l = 20 * left (numbered g.K.Validate.shape l.engine.now.nodes.now) (length l.engine.now.nodes.now) l.node.0 (subject_of l.question.now.instance) (busy_at (steps_to l.question.now.place.now) l.context.now.in_progress) + 8

abbrev pub decreases-verdict::verdict_keyword : goal.decreases-verdict::verdict_keyword
decreases-verdict::verdict_keyword g l = 20 * left (numbered g.K.Validate.shape l.engine.now.nodes.now) (length l.engine.now.nodes.now) l.node.0 (subject_of l.question.now.instance) (busy_at (steps_to l.question.now.place.now) l.context.now.in_progress) + 7

abbrev pub decreases-verdict_asking::asked_verdict : goal.decreases-verdict_asking::asked_verdict
decreases-verdict_asking::asked_verdict g l = 20 * left (numbered g.K.Validate.shape l.engine.now.nodes.now) (length l.engine.now.nodes.now) l.node.0 (subject_of l.question.now.instance) (busy_at (steps_to l.question.now.place.now) l.context.now.in_progress) + 6

abbrev pub decreases-verdict_asking::verdict_counted : goal.decreases-verdict_asking::verdict_counted
decreases-verdict_asking::verdict_counted g l = 20 * left (numbered g.K.Validate.shape l.engine.now.nodes.now) (length l.engine.now.nodes.now) l.node.0 (subject_of l.question.now.instance) (busy_at (steps_to l.question.now.place.now) l.context.now.in_progress) + 4

abbrev pub decreases-verdict_asking::verdict_members : goal.decreases-verdict_asking::verdict_members
decreases-verdict_asking::verdict_members g l = 20 * left (numbered g.K.Validate.shape l.engine.now.nodes.now) (length l.engine.now.nodes.now) l.node.0 (subject_of l.question.now.instance) (busy_at (steps_to l.question.now.place.now) l.context.now.in_progress) + 4

abbrev pub decreases-verdict_asking::verdict_names : goal.decreases-verdict_asking::verdict_names
decreases-verdict_asking::verdict_names g l = 20 * left (numbered g.K.Validate.shape l.engine.now.nodes.now) (length l.engine.now.nodes.now) l.node.0 (subject_of l.question.now.instance) (busy_at (steps_to l.question.now.place.now) l.context.now.in_progress) + 4

abbrev pub decreases-verdict_asking::verdict_there : goal.decreases-verdict_asking::verdict_there
decreases-verdict_asking::verdict_there g l = 20 * left (numbered g.K.Validate.shape l.engine.now.nodes.now) (length l.engine.now.nodes.now) l.node.0 (subject_of l.question.now.instance) (busy_at (steps_to l.question.now.place.now) l.context.now.in_progress) + 3

abbrev pub invariant-verdict_asking::verdict_counted-loop-asked :
    goal.invariant-verdict_asking::verdict_counted-loop-asked
invariant-verdict_asking::verdict_counted-loop-asked g l =
    let set = setting g.K.Validate.words g.K.Validate.is_whole g.K.Validate.shape g.M.Matcher.matching l.engine in
    let q = asking l.question in
    let m = g.K.Validate.shape l.keyword.keyword.now in
    let es = map (option_map edge_of) l.keyword.children.now in
    let old = l.initial.context in
    record {
      keeps : Keeps old l.context;
      counted : old.visits ≤ l.context.visits;
      worked : Spends old.work l.context.work;
      quiet : LeadsNowhere es → l.context.visits ≡ old.visits;
      stays : StaysRight set q old l.context;
      there : l.questions.subject ≡ subject_of l.question.instance;
      leads : SaysByTheRest set q old l.node.0 m es l.all l.questions.left;
      met : MeetsNothing set q old l.node.0 m es l.context;
    }

abbrev pub decreases-verdict_asking::verdict_counted-loop-asked :
    goal.decreases-verdict_asking::verdict_counted-loop-asked
decreases-verdict_asking::verdict_counted-loop-asked g l = length l.questions.left

abbrev pub invariant-verdict_asking::verdict_members-loop-asked :
    goal.invariant-verdict_asking::verdict_members-loop-asked
invariant-verdict_asking::verdict_members-loop-asked g l =
    let set = setting g.K.Validate.words g.K.Validate.is_whole g.K.Validate.shape g.M.Matcher.matching l.engine in
    let q = asking l.question in
    let m = g.K.Validate.shape l.keyword.keyword.now in
    let es = map (option_map edge_of) l.keyword.children.now in
    let old = l.initial.context in
    record {
      keeps : Keeps old l.context;
      counted : old.visits ≤ l.context.visits;
      worked : Spends old.work l.context.work;
      quiet : LeadsNowhere es → l.context.visits ≡ old.visits;
      stays : StaysRight set q old l.context;
      there : l.questions.subject ≡ subject_of l.question.instance;
      leads : SaysByTheRest set q old l.node.0 m es true l.questions.left;
      met : MeetsNothing set q old l.node.0 m es l.context;
    }

abbrev pub decreases-verdict_asking::verdict_members-loop-asked :
    goal.decreases-verdict_asking::verdict_members-loop-asked
decreases-verdict_asking::verdict_members-loop-asked g l = length l.questions.left

abbrev pub invariant-verdict_asking::verdict_names-loop-asked :
    goal.invariant-verdict_asking::verdict_names-loop-asked
invariant-verdict_asking::verdict_names-loop-asked g l =
    let set = setting g.K.Validate.words g.K.Validate.is_whole g.K.Validate.shape g.M.Matcher.matching l.engine in
    let q = asking l.question in
    let m = g.K.Validate.shape l.keyword.keyword.now in
    let es = map (option_map edge_of) l.keyword.children.now in
    let old = l.initial.context in
    record {
      keeps : Keeps old l.context;
      counted : old.visits ≤ l.context.visits;
      worked : Spends old.work l.context.work;
      quiet : LeadsNowhere es → l.context.visits ≡ old.visits;
      stays : StaysRight set q old l.context;
      there : l.questions.subject ≡ subject_of l.question.instance;
      leads : SaysByTheRest set q old l.node.0 m es true l.questions.left;
      met : MeetsNothing set q old l.node.0 m es l.context;
    }

abbrev pub decreases-verdict_asking::verdict_names-loop-asked :
    goal.decreases-verdict_asking::verdict_names-loop-asked
decreases-verdict_asking::verdict_names-loop-asked g l = length l.questions.left

abbrev pub decreases-verdict::verdict_child : goal.decreases-verdict::verdict_child
decreases-verdict::verdict_child g l = 20 * left (numbered g.K.Validate.shape l.engine.now.nodes.now) (length l.engine.now.nodes.now) l.node.0 (subject_of l.question.now.instance) (busy_at (steps_to l.question.now.place.now) l.context.now.in_progress) + 2

abbrev pub decreases-verdict::verdict_reference : goal.decreases-verdict::verdict_reference
decreases-verdict::verdict_reference g l = 20 * edge_needs (numbered g.K.Validate.shape l.engine.now.nodes.now) (length l.engine.now.nodes.now) (edge_of l.edge.now) (subject_of l.question.now.instance) (busy_at (steps_to l.question.now.place.now) l.context.now.in_progress) + 2

abbrev pub decreases-verdict::verdict_edge : goal.decreases-verdict::verdict_edge
decreases-verdict::verdict_edge g l = 20 * edge_needs (numbered g.K.Validate.shape l.engine.now.nodes.now) (length l.engine.now.nodes.now) (edge_of l.edge.now) (subject_of l.question.now.instance) (busy_at (steps_to l.question.now.place.now) l.context.now.in_progress) + 1

abbrev pub decreases-verdict::shared_verdict : goal.decreases-verdict::shared_verdict
decreases-verdict::shared_verdict g l = 20 * left (numbered g.K.Validate.shape l.engine.now.nodes.now) (length l.engine.now.nodes.now) l.node.0 (subject_of l.question.now.instance) (busy_at (steps_to l.question.now.place.now) l.context.now.in_progress) + 12

abbrev pub decreases-verdict::guarded_verdict : goal.decreases-verdict::guarded_verdict
decreases-verdict::guarded_verdict g l = 20 * edge_needs (numbered g.K.Validate.shape l.engine.now.nodes.now) (length l.engine.now.nodes.now) (edge_of l.edge.now) (subject_of l.question.now.instance) (busy_at (steps_to l.question.now.place.now) l.context.now.in_progress)

abbrev pub invariant-verdict::verdict_entries-loop-entry : goal.invariant-verdict::verdict_entries-loop-entry
invariant-verdict::verdict_entries-loop-entry g l =
    let ns = numbered g.K.Validate.shape l.engine.nodes.now in
    let busy = busy_at (steps_to l.question.place.now) l.initial.context.in_progress in
    let s = subject_of l.question.instance in
    let w = settling (g.M.Matcher.matching l.engine.matcher.now) l.initial.context.remembered.assumptions in
    record {
      root : l.context.root ≡ l.initial.context.root;
      kept : l.context.in_progress ≡ l.initial.context.in_progress;
      assumes : l.context.remembered.assumptions ≡ l.initial.context.remembered.assumptions;
      marking : l.context.marking ≡ l.initial.context.marking;
      counted : l.initial.context.visits ≤ l.context.visits;
      worked : Spends l.initial.context.work l.context.work;
      so_far : (x : Reading) → Reads g.K.Validate.is_whole ns (length l.engine.nodes.now) w (steps_to l.question.place.now) s x → left ns (length l.engine.nodes.now) l.node.0 s busy ≤ x.depth
          → (o : Outcome) × Replies x (mode_of l.question.mode) (told.Truth true) o
          × (both o (parts_say g.K.Validate.words ns x l.node.0 (path_of l.question.path.now) (steps_to l.question.place.now) busy (map (shaped_part g.K.Validate.shape) (map entry_of (drop l.entry-index l.entries))))
          ≡ parts_say g.K.Validate.words ns x l.node.0 (path_of l.question.path.now) (steps_to l.question.place.now) busy (map (shaped_part g.K.Validate.shape) (map entry_of l.entries)));
      stays : StaysRight (setting g.K.Validate.words g.K.Validate.is_whole g.K.Validate.shape g.M.Matcher.matching l.engine) (asking l.question) l.initial.context l.context;
      first : l.entry-index ≡ 0 → l.context ≡ l.initial.context;
      remembers : 0 < l.entry-index → PartsRemember (asking l.question) l.initial.context l.context (map (shaped_part g.K.Validate.shape) (map entry_of l.entries)) (told.Truth true);
      visited : 0 < l.entry-index → PartsCount ns (asking l.question) l.initial.context l.context (map (shaped_part g.K.Validate.shape) (map entry_of l.entries));
      met : (texts : Bool) (root : Data) (depth : ℕ) → Reads g.K.Validate.is_whole ns (length l.engine.nodes.now) w (steps_to l.question.place.now) s (reading w texts root depth) → left ns (length l.engine.nodes.now) l.node.0 s busy ≤ depth
          → (before : List Met) × MeetsEach w.matcher l.initial.context.remembered before l.context.remembered
          × (before ++ plan_met (mode_of l.question.mode) (parts_looked g.K.Validate.words ns w texts root depth l.node.0 (path_of l.question.path.now) (steps_to l.question.place.now) busy (map (shaped_part g.K.Validate.shape) (map entry_of (drop l.entry-index l.entries))))
          ≡ plan_met (mode_of l.question.mode) (parts_looked g.K.Validate.words ns w texts root depth l.node.0 (path_of l.question.path.now) (steps_to l.question.place.now) busy (map (shaped_part g.K.Validate.shape) (map entry_of l.entries))));
    }

abbrev pub decreases-verdict_turns::keyword_verdict : goal.decreases-verdict_turns::keyword_verdict
decreases-verdict_turns::keyword_verdict g l = 20 * left (numbered g.K.Validate.shape l.engine.now.nodes.now) (length l.engine.now.nodes.now) l.node.0 (subject_of l.question.now.instance) (busy_at (steps_to l.question.now.place.now) l.context.now.in_progress) + 5

abbrev pub decreases-verdict_turns::take_turns : goal.decreases-verdict_turns::take_turns
decreases-verdict_turns::take_turns g l = 20 * left (numbered g.K.Validate.shape l.engine.now.nodes.now) (length l.engine.now.nodes.now) l.node.0 (subject_of l.question.now.instance) (busy_at (steps_to l.question.now.place.now) l.context.now.in_progress) + 4

abbrev pub invariant-verdict_turns::take_turns-turns : goal.invariant-verdict_turns::take_turns-turns
invariant-verdict_turns::take_turns-turns g l =
    let ns = numbered g.K.Validate.shape l.engine.nodes.now in
    let busy = busy_at (steps_to l.question.place.now) l.initial.context.in_progress in
    let s = subject_of l.question.instance in
    let m = g.K.Validate.shape l.keyword.keyword.now in
    let w = settling (g.M.Matcher.matching l.engine.matcher.now) l.initial.context.remembered.assumptions in
    let es = map (option_map edge_of) l.keyword.children.now in
    record {
      root : l.context.root ≡ l.initial.context.root;
      kept : l.context.in_progress ≡ l.initial.context.in_progress;
      assumes : l.context.remembered.assumptions ≡ l.initial.context.remembered.assumptions;
      counted : l.initial.context.visits ≤ l.context.visits;
      worked : Spends l.initial.context.work l.context.work;
      quiet : LeadsNowhere es → l.context.visits ≡ l.initial.context.visits;
      stays : StaysRight (setting g.K.Validate.words g.K.Validate.is_whole g.K.Validate.shape g.M.Matcher.matching l.engine) (asking l.question) l.initial.context l.context;
      can : g.K.Validate.can_be false m s (l.run, answer_of false l.answer);
      asks : AsksVerdictsOn (g.K.Validate.words false) m s (g.K.Validate.remaining m s (l.run, answer_of false l.answer)) (l.run, answer_of false l.answer) (told_reply l.told);
      leads : (x : Reading) → Reads g.K.Validate.is_whole ns (length l.engine.nodes.now) w (steps_to l.question.place.now) s x → left ns (length l.engine.nodes.now) l.node.0 s busy ≤ x.depth
          → EvaluatesOn (g.K.Validate.words x.texts) m (g.K.Validate.can_be x.texts m) (g.K.Validate.ends x.texts m) (g.K.Validate.fits x.texts m) s x (mode_of l.fn.question.mode)
          (child_says g.K.Validate.words ns x (path_of l.question.path.now) (steps_to l.question.place.now) busy es) (child_unit g.K.Validate.words ns x (path_of l.question.path.now) (steps_to l.question.place.now) busy es) (same_edge es) l.context.marking (l.run, answer_of x.texts l.answer) (told_reply l.told);
      met : (texts : Bool) (root : Data) (depth : ℕ) → Reads g.K.Validate.is_whole ns (length l.engine.nodes.now) w (steps_to l.question.place.now) s (reading w texts root depth) → left ns (length l.engine.nodes.now) l.node.0 s busy ≤ depth
          → MeetsSoFar (g.K.Validate.words texts) w.matcher w.assumptions (node_at (g.K.Validate.words texts) w.matcher ns (subject_in root) l.node.0 (path_of l.question.path.now) (steps_to l.question.place.now)) s (child_run g.K.Validate.words ns w texts root depth (path_of l.question.path.now) (steps_to l.question.place.now) busy es) (same_edge es) l.keyword.name.now m (g.K.Validate.remaining m s) l.initial.context.remembered
          (keyword_met (g.K.Validate.words texts) w.matcher w.assumptions (node_at (g.K.Validate.words texts) w.matcher ns (subject_in root) l.node.0 (path_of l.question.path.now) (steps_to l.question.place.now)) s (child_run g.K.Validate.words ns w texts root depth (path_of l.question.path.now) (steps_to l.question.place.now) busy es) spans_nothing (same_edge es) l.keyword.name.now m (mode_of l.fn.question.mode))
          l.context.remembered l.context.marking (l.run, answer_of texts l.answer) (told_reply l.told);
    }

abbrev pub decreases-verdict_turns::take_turns-turns : goal.decreases-verdict_turns::take_turns-turns
decreases-verdict_turns::take_turns-turns g l = g.K.Validate.remaining (g.K.Validate.shape l.keyword.keyword.now) (subject_of l.question.instance) (l.run, answer_of false l.answer)

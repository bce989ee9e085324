-- Which unfinished matches the runs of nodes meet, stated for every sufficient depth of questions.
use Rattle.std.specs.Prelude.{◌<◌, ◌≤◌, ℕ, Bool, true, false, [], List, ◌++◌}
use Rattle.serde_json.specs.Data.{Data}
use Rattle.theory_definitions.specs.Instance.{Place, Subject, Text}
use Rattle.theory_definitions.specs.Matching.{completion_of}
use Rattle.theory_definitions.specs.Reports.{spans_nothing}
use Rattle.theory_definitions.specs.Keywords.{Below, Keywords, Mode, Question, for_all, for_first, for_units, for_verdict, here}
use Rattle.theory_definitions.specs.Runs.{Looked, Met, Run, no_run, plan_met}
use Rattle.theory_definitions.specs.Guarded.{Children, NodeEdge, NodeForm, NodePart, Nodes, across, guarded_node, guarded_within, node_asked, node_part, node_part_met, yes_run}
use Rattle.theory_meaning.specs.Numbered.{left, subject_in}
use Rattle.theory_meaning.specs.Untold.{each_looked_alone, looked_alone}
use Rattle.theory_definitions.specs.Unfinished.{Remembered}
use Rattle.schema_run_context.specs.Matches.{MeetsEach, Settling}
use Rattle.schema_run_steps.specs.NodeRuns.{Reading, Reads, edge_needs}

-- The unfinished matches that the run of one entry meets. If errors are wanted, a leaf is first run
-- for its verdict, and for its errors only if the verdict is no.
abbrev pub entry_met : Mode → Looked → List Met
entry_met for_units x = x.met for_units
entry_met for_verdict x = x.met for_verdict
entry_met for_first x = elim x.is_leaf [ true ↦ x.met for_verdict ++ elim x.holds [ true ↦ [] | false ↦ x.met for_first ] | false ↦ x.met for_first ]
entry_met for_all x = elim x.is_leaf [ true ↦ x.met for_verdict ++ elim x.holds [ true ↦ [] | false ↦ x.met for_all ] | false ↦ x.met for_all ]

-- The reading of a run, in which every match has the outcome that the run assigns to it.
abbrev pub reading : Settling → Bool → Data → ℕ → Reading
reading w texts root depth = record { texts = texts; root = root; matcher = w.matcher; completion = completion_of w.assumptions; depth = depth }

-- The runs of nodes, with questions of a bounded depth.
module _ {K R : Type 0} (words : Bool → Keywords K R) (nodes : Nodes K) (w : Settling) (texts : Bool) (root : Data) (depth : ℕ) where
  -- The run of a node, given the runs of its edges.
  abbrev pub node_run : ℕ → Text → Place → (NodeEdge → Below → Run) → Run
  node_run = guarded_node (words texts) w.matcher nodes (subject_in root) w.assumptions

  -- The run of a node with these nodes in progress.
  abbrev pub deep_run : ℕ → Text → Place → List ℕ → Run
  deep_run = guarded_within (yes_run nodes) node_run depth

  -- The run of an edge.
  abbrev pub edge_run : Text → Place → List ℕ → NodeEdge → Below → Run
  edge_run = across (yes_run nodes) node_run deep_run

  -- The run that answers a question of a keyword.
  abbrev pub child_run : Text → Place → List ℕ → Children → Question → Run
  child_run path p busy es = node_asked (words texts) w.matcher nodes (subject_in root) no_run es (edge_run path p busy)

  -- The matches that a keyword or a reference meets.
  abbrev pub form_met : ℕ → Text → Place → List ℕ → Text → NodeForm K → Mode → List Met
  form_met i path p busy = node_part_met (words texts) w.matcher nodes (subject_in root) w.assumptions i path p (edge_run path p busy) spans_nothing

  -- Whether a keyword or a reference holds.
  abbrev pub part_holds : ℕ → Text → Place → List ℕ → Text → NodeForm K → Bool
  part_holds i path p busy name form = (node_part (words texts) w.matcher nodes (subject_in root) (completion_of w.assumptions) i path p (λ e b. (edge_run path p busy e b).outcome tt) spans_nothing name form).verdict

  -- An entry, with what its run meets.
  abbrev pub part_looked : ℕ → Text → Place → List ℕ → NodePart K → Looked
  part_looked i path p busy = looked_alone (words texts) w.matcher nodes (subject_in root) w.assumptions i path p (edge_run path p busy)

  -- Several entries, with what their runs meet.
  abbrev pub parts_looked : ℕ → Text → Place → List ℕ → List (NodePart K) → List Looked
  parts_looked i path p busy = each_looked_alone (words texts) w.matcher nodes (subject_in root) w.assumptions i path p (edge_run path p busy)

-- ---- what a run remembers after its nodes have met matches for a subject at a place, in every
-- reading in which the subject is at that place

module _ {K R : Type 0} (words : Bool → Keywords K R) (is_whole : K → Bool) (nodes : Nodes K) (count : ℕ) (w : Settling) (mode : Mode) (path : Text) (p : Place) (busy : List ℕ) (s : Subject) (old new : Remembered) where
  -- The run of a node.
  abbrev pub NodeMeets : ℕ → Type 0
  NodeMeets i = (texts : Bool) (root : Data) (depth : ℕ) → Reads is_whole nodes count w p s (reading w texts root depth) → left nodes count i s busy < depth → MeetsEach w.matcher old ((deep_run words nodes w texts root depth i path p busy).met mode) new

  -- The run of an edge.
  abbrev pub EdgeMeets : NodeEdge → Type 0
  EdgeMeets e = (texts : Bool) (root : Data) (depth : ℕ) → Reads is_whole nodes count w p s (reading w texts root depth) → edge_needs nodes count e s busy ≤ depth → MeetsEach w.matcher old ((edge_run words nodes w texts root depth path p busy e here).met mode) new

  -- The run of a keyword's child.
  abbrev pub ChildMeets : ℕ → Children → Question → Type 0
  ChildMeets i es q = (texts : Bool) (root : Data) (depth : ℕ) → Reads is_whole nodes count w p s (reading w texts root depth) → left nodes count i s busy ≤ depth → MeetsEach w.matcher old ((child_run words nodes w texts root depth path p busy es q).met mode) new

  -- The run of a keyword or a reference.
  abbrev pub FormMeets : ℕ → Text → NodeForm K → Type 0
  FormMeets i name form = (texts : Bool) (root : Data) (depth : ℕ) → Reads is_whole nodes count w p s (reading w texts root depth) → left nodes count i s busy ≤ depth → MeetsEach w.matcher old (form_met words nodes w texts root depth i path p busy name form mode) new

  -- The run of an entry.
  abbrev pub EntryMeets : ℕ → NodePart K → Type 0
  EntryMeets i x = (texts : Bool) (root : Data) (depth : ℕ) → Reads is_whole nodes count w p s (reading w texts root depth) → left nodes count i s busy ≤ depth → MeetsEach w.matcher old (entry_met mode (part_looked words nodes w texts root depth i path p busy x)) new

  -- The run of several entries in order.
  abbrev pub PartsMeet : ℕ → List (NodePart K) → Type 0
  PartsMeet i xs = (texts : Bool) (root : Data) (depth : ℕ) → Reads is_whole nodes count w p s (reading w texts root depth) → left nodes count i s busy ≤ depth → MeetsEach w.matcher old (plan_met mode (parts_looked words nodes w texts root depth i path p busy xs)) new

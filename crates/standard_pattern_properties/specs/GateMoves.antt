-- The course of a run of a keyword with gates: member by member, gate by gate, and the patterns in
-- order up to the first one that matches. A turn asks for one match, or evaluates one child, or
-- ends the run.
use Rattle.std.specs.Prelude.{Bool, List, [], drop, false, if◌then◌else◌, length, map, true, ℕ, ◌++◌, ◌+◌, ◌∷◌}
use Rattle.theory_definitions.specs.Instance.{Subject, Text}
use Rattle.theory_definitions.specs.Keywords.{Answer, Question, Reply, Turn, ask, done, match_text}
use Rattle.theory_definitions.specs.Keywords as spec
use Rattle.schema_reports.specs.ReportViews.{spoken}
use Rattle.schema_traits.specs.KeywordViews.{mode_of}
use Rattle.schema_traits.specs.declared.keyword.Mode.{Mode}
use Rattle.schema_traits.specs.declared.keyword.Mode.TheVariants as mode
use Rattle.keyword_authoring.specs.Members.{has_member}
use Rattle.keyword_authoring.specs.Tallies.{says_yes}
use Rattle.keyword_authoring.specs.Ways.{goes_on, match_point, mode_from, noted, taken}
use Rattle.standard_pattern_properties.specs.Gates.{Form, Gate, at_member, opens, pair_with, passes, tells, told}
use Rattle.standard_pattern_properties.specs.declared.gates.GateRun.{GateRun}
use Rattle.standard_pattern_properties.specs.declared.gates.GateStage.{GateStage}
use Rattle.standard_pattern_properties.specs.declared.gates.GateStage.TheVariants.{Asked, Begun, Ended, Tested}

-- The outcome of a turn. It ends the run, with the names that the error shows. Or it asks whether a
-- pattern of a gate, both given by number, matches the current member's name. Or it asks a gate's
-- question at the current member.
pub data Move : Type 0 where
  halts : List Text → Move
  tests : List Text → List Text → ℕ → ℕ → Text → Text → Move
  asks : List Text → List Text → ℕ → Question → Move

abbrev pub stage_after : Move → GateStage
stage_after (halts names) = Ended
stage_after (tests names left j l p k) = Tested j l
stage_after (asks names left j q) = Asked j

-- the members that are left, the current one first
abbrev pub names_after : Move → List Text
names_after (halts names) = []
names_after (tests names left j l p k) = names
names_after (asks names left j q) = names

-- the names that the error shows
abbrev pub left_after : Move → List Text
left_after (halts names) = []
left_after (tests names left j l p k) = left
left_after (asks names left j q) = left

abbrev pub run_after : Mode → Move → GateRun
run_after m mv = record { mode = m; stage = stage_after mv; names = names_after mv; left = left_after mv }

abbrev pub turn_by : Mode → Move → Turn
turn_by m (halts names) = done
turn_by m (tests names left j l p k) = match_text (pair_with k p) (match_point m p)
turn_by m (asks names left j q) = ask q (mode_of m)

abbrev pub run_begin : spec.Mode → List Text → GateRun
run_begin m names = record { mode = mode_from m; stage = Begun; names = names; left = [] }

-- ---- the moves

module _ (gates : List Gate) (form : Form) (s : Subject) (m : Mode) where
  -- a name that the error shows: if only a verdict is requested, it ends the run
  abbrev pub notes : Mode → Text → List Text → (List Text → Move) → Move
  notes mode.Verdict k left next = halts (left ++ k ∷ [])
  notes mode.First k left next = next (left ++ k ∷ [])
  notes mode.All k left next = next (left ++ k ∷ [])
  notes mode.Evaluate k left next = next (left ++ k ∷ [])

  -- a gate that is open
  abbrev pub enters : Form → List Text → List Text → Text → ℕ → Gate → (List Text → Move) → Move
  enters passes names left k j g next = asks names left j (at_member g.child k)
  enters (tells called text) names left k j g next = notes m k left next

  abbrev pub settles : Bool → List Text → List Text → Text → ℕ → Gate → (List Text → Move) → Move
  settles true names left k j g next = enters form names left k j g next
  settles false names left k j g next = next left

  -- the next pattern, if there is one; if there is none, then no pattern matches
  abbrev pub at_pattern : List Text → List Text → Text → ℕ → ℕ → Gate → List Text → (List Text → Move) → Move
  at_pattern names left k j l g [] next = settles (opens g.condition false) names left k j g next
  at_pattern names left k j l g (p ∷ ps) next = tests names left j l p k

  -- the gates that are left at the current member
  abbrev pub at_gates : List Text → List Text → Text → ℕ → List Gate → (List Text → Move) → Move
  at_gates names left k j [] next = next left
  at_gates names left k j (g ∷ gs) next = at_pattern names left k j 0 g g.patterns (λ left'. at_gates names left' k (j + 1) gs next)

  -- from a gate on at the current member, if the instance has it, and then at the later members
  abbrev pub seeks : ℕ → List Text → List Text → Move
  seeks j left [] = halts left
  seeks j left (k ∷ ks) = if has_member k s then at_gates (k ∷ ks) left k j (drop j gates) (λ left'. seeks 0 left' ks) else seeks 0 left ks

  -- A match that succeeds decides the gate, and no other pattern of it is asked; else the next
  -- pattern is asked.
  abbrev pub matched_by : Bool → List Text → List Text → Text → ℕ → ℕ → Gate → (List Text → Move) → Move
  matched_by true names left k j l g next = settles (opens g.condition true) names left k j g next
  matched_by false names left k j l g next = at_pattern names left k j (l + 1) g (drop (l + 1) g.patterns) next

  abbrev pub tested_at : Bool → List Text → List Text → Text → ℕ → ℕ → List Gate → (List Text → Move) → Move
  tested_at won names left k j l [] next = next left
  tested_at won names left k j l (g ∷ gs) next = matched_by won names left k j l g (λ left'. at_gates names left' k (j + 1) gs next)

  abbrev pub tested : Bool → ℕ → ℕ → List Text → List Text → Move
  tested won j l left [] = halts left
  tested won j l left (k ∷ ks) = if has_member k s then tested_at won (k ∷ ks) left k j l (drop j gates) (λ left'. seeks 0 left' ks) else seeks 0 left ks

  abbrev pub answered : Bool → ℕ → List Text → List Text → Move
  answered true j left names = seeks (j + 1) left names
  answered false j left names = halts left

  -- the outcome of a turn, given whether the last reply says yes and whether it lets the run go on
  abbrev pub move_by : GateStage → List Text → List Text → Bool → Bool → Move
  move_by Begun left names won onward = seeks 0 left names
  move_by (Tested j l) left names won onward = tested won j l left names
  move_by (Asked j) left names won onward = answered onward j left names
  move_by Ended left names won onward = halts left

abbrev pub move_at : List Gate → Form → Subject → GateRun → Reply → Move
move_at gates form s r reply = move_by gates form s r.mode r.stage r.left r.names (says_yes reply) (goes_on reply)

-- ---- the answer after a turn

-- Only the answer to a question is taken.
abbrev pub answer_at : GateStage → Answer → Reply → Answer
answer_at Begun a reply = a
answer_at (Tested j l) a reply = a
answer_at (Asked j) a reply = taken a reply
answer_at Ended a reply = a

-- the answer with the error that shows these names
abbrev pub told_in : Bool → Form → Mode → Answer → List Text → Answer
told_in texts passes m a names = a
told_in texts (tells called text) m a names = noted m called a (map (spoken texts) (told text names))

abbrev pub answer_by : Bool → Form → Mode → Answer → Move → Answer
answer_by texts form m a (halts names) = told_in texts form m a names
answer_by texts form m a (tests names left j l p k) = a
answer_by texts form m a (asks names left j q) = a

-- ---- an upper bound for the number of turns that are left

abbrev pub gate_weight : Gate → ℕ
gate_weight g = length g.patterns + 2

abbrev pub weight : List Gate → ℕ
weight [] = 0
weight (g ∷ gs) = gate_weight g + weight gs

abbrev pub total : List Gate → List Text → ℕ
total gates [] = 0
total gates (k ∷ ks) = weight gates + total gates ks

-- if a pattern of the first gate is being matched
abbrev pub tested_weight : ℕ → List Gate → ℕ
tested_weight l [] = 1
tested_weight l (g ∷ gs) = length (drop l g.patterns) + 2 + weight gs

abbrev pub tested_left : List Gate → ℕ → ℕ → List Text → ℕ
tested_left gates j l [] = 0
tested_left gates j l (k ∷ ks) = tested_weight l (drop j gates) + total gates ks

abbrev pub asked_left : List Gate → ℕ → List Text → ℕ
asked_left gates j [] = 0
asked_left gates j (k ∷ ks) = weight (drop (j + 1) gates) + 1 + total gates ks

abbrev pub turns_left : List Gate → GateStage → List Text → ℕ
turns_left gates Begun names = total gates names + 1
turns_left gates (Tested j l) names = tested_left gates j l names
turns_left gates (Asked j) names = asked_left gates j names
turns_left gates Ended names = 0

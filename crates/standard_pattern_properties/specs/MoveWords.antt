-- The code makes the same move as the definitions do from the same run.
use Rattle.std.specs.Prelude.{Bool, List, Option, drop, map, option_map, string_bytes, ℕ, ◌≡◌}
use Rattle.theory_definitions.specs.Instance.{Subject, Text}
use Rattle.schema_traits.specs.declared.keyword.Mode.{Mode}
use Rattle.schema_reports.specs.InstanceViews.{subject_of}
use Rattle.schema_reports.specs.declared.instance.Instance.{Instance}
use Rattle.standard_pattern_properties.specs.Firsts.{first_of}
use Rattle.standard_pattern_properties.specs.GatedKeywords.{form_of, gate_of, gates_of, move_of, moved_by}
use Rattle.standard_pattern_properties.specs.GateMoves as moves
use Rattle.standard_pattern_properties.specs.GateMoves.{at_gates, at_pattern, enters, matched_by, move_by, seeks, settles, tested}
use Rattle.standard_pattern_properties.specs.Gates as gates
use Rattle.standard_pattern_properties.specs.declared.gates.Gate.{Gate}
use Rattle.standard_pattern_properties.specs.declared.gates.GateRun.{GateRun}
use Rattle.standard_pattern_properties.specs.declared.gates.Move.{Move}
use Rattle.standard_pattern_properties.specs.declared.keyword.GatedKeyword.{GatedKeyword}

-- the gate with this number among these, if there is one
abbrev pub IsGate : List gates.Gate → ℕ → Option Gate → Type 0
IsGate among number gate = option_map gate_of gate ≡ first_of (drop number among)

-- a move of the code, with what is left of a run
abbrev pub moved_in : GateRun → Move → moves.Move
moved_in run made = move_of made run.names run.left

-- ---- at the current member, which has this name: a move is made, or what follows continues

module _ (k : GatedKeyword) (run run' : GateRun) (name : Text) (number : ℕ) where
  -- An open gate is entered.
  abbrev pub Enters : Gate → Option Move → Type 0
  Enters gate made = (s : Subject) (next : List Text → moves.Move)
      → enters (gates_of k) (form_of k) s run.mode (form_of k) run.names run.left name number (gate_of gate) next
      ≡ moved_by made run' next

  -- A gate is entered if it is open.
  abbrev pub Settles : Bool → Gate → Option Move → Type 0
  Settles opened gate made = (s : Subject) (next : List Text → moves.Move)
      → settles (gates_of k) (form_of k) s run.mode opened run.names run.left name number (gate_of gate) next
      ≡ moved_by made run' next

  -- The gate's patterns are asked from an index on.
  abbrev pub Looks : ℕ → Gate → Option Move → Type 0
  Looks place gate made = (s : Subject) (next : List Text → moves.Move)
      → at_pattern (gates_of k) (form_of k) s run.mode run.names run.left name number place (gate_of gate)
      (drop place (map string_bytes gate.patterns.now)) next ≡ moved_by made run' next

  -- The gates are looked at from the number on.
  abbrev pub SeeksHere : Option Move → Type 0
  SeeksHere made = (s : Subject) (next : List Text → moves.Move)
      → at_gates (gates_of k) (form_of k) s run.mode run.names run.left name number (drop number (gates_of k)) next
      ≡ moved_by made run' next

  -- The result of the match of a pattern is taken.
  abbrev pub TakesMatch : ℕ → Bool → Gate → Option Move → Type 0
  TakesMatch place won gate made = (s : Subject) (next : List Text → moves.Move)
      → matched_by (gates_of k) (form_of k) s run.mode won run.names run.left name number place (gate_of gate) next ≡ moved_by made run' next

-- ---- at all members that are left

module _ (k : GatedKeyword) (instance : Instance) (run run' : GateRun) where
  -- The gates are looked at from a number on.
  abbrev pub Seeks : ℕ → Move → Type 0
  Seeks number made = seeks (gates_of k) (form_of k) (subject_of instance) run.mode number run.left run.names ≡ moved_in run' made

  -- The result of the match of a gate's pattern, both given by number, is taken.
  abbrev pub Tests : ℕ → ℕ → Bool → Move → Type 0
  Tests number place won made = tested (gates_of k) (form_of k) (subject_of instance) run.mode won number place run.left run.names
      ≡ moved_in run' made

  -- The last reply is taken: whether it says yes, and whether it lets the run go on.
  abbrev pub Moves : Bool → Bool → Move → Type 0
  Moves won onward made = move_by (gates_of k) (form_of k) (subject_of instance) run.mode run.stage run.left run.names won onward
      ≡ moved_in run' made

-- From either number on, the same move is made.
abbrev pub SeekAlike : GatedKeyword → ℕ → ℕ → Type 0
SeekAlike k i j = (s : Subject) (m : Mode) (left names : List Text)
    → seeks (gates_of k) (form_of k) s m i left names ≡ seeks (gates_of k) (form_of k) s m j left names

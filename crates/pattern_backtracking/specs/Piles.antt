-- What a pile of frames still has to give: the results that the machine has yet to find, in their
-- order, with the steps between them.
use Rattle.std.specs.Prelude.{◌≡◌, ℕ, Bool, true, false, List, [], ◌∷◌, ◌++◌, if◌then◌else◌}
use Rattle.pattern_trees.specs.declared.tree.Turns.{Turns}
use Rattle.pattern_trees.specs.declared.tree.Look.{Look}
use Rattle.pattern_trees.specs.declared.tree.Tree.{Tree}
use Rattle.pattern_trees.specs.Nodes.{node_of}
use Rattle.pattern_trees.specs.Matching.{Chars, Captures, State, closed, fewer, fresh, is_idle}
use Rattle.pattern_backtracking.specs.declared.frames.Task.{Task}
use Rattle.pattern_backtracking.specs.declared.frames.Task.TheVariants.{Enter, Turned, Close}
use Rattle.pattern_backtracking.specs.declared.frames.Frame.{Frame}
use Rattle.pattern_backtracking.specs.declared.frames.First.{First}
use Rattle.pattern_backtracking.specs.declared.frames.First.TheVariants.{Found, Missing, Limit}
use Rattle.pattern_backtracking.specs.Counting.{gives, Trace, after, stepping, ended, entered, repeated_trace, Ending, found_at, none_left, at_limit}

abbrev pub state : ℕ → Captures → State
state i cs = record { place = i; captures = cs }

-- a node, with the step that enters it
abbrev pub visited : Tree → Bool → Chars → State → Trace
visited n ahead s = stepping (entered (node_of n) ahead s)

-- a turn from a place has ended
abbrev pub turned_trace : (State → Trace) → ℕ → Turns → ℕ → State → Trace
turned_trace body left t i y = if is_idle t i y then [] else repeated_trace body left (fewer t) y

-- one more turn, with at most so many after it
abbrev pub more_trace : (State → Trace) → ℕ → Turns → State → Trace
more_trace body left t x = after (stepping (turned_trace body left t x.place)) (body (fresh t x))

-- a task, after the step that takes it up
abbrev pub done : Chars → Task → State → Trace
done s (Enter n ahead) x = entered (node_of n.now) ahead s x
done s (Turned t left n ahead i) x = turned_trace (visited n.now ahead s) left t i x
done s (Close k ahead i) x = gives (closed k ahead i x) ∷ []

-- tasks, the last one first, from each result of a trace
unfoldable pub runs : Chars → List Task → Trace → Trace
runs s [] e = e
runs s (t ∷ ts) e = after (stepping (done s t)) (runs s ts e)

-- the same to the end, where a result is taken out
unfoldable pub whole : Chars → List Task → Trace → Trace
whole s ts e = after ended (runs s ts e)

abbrev pub frame_trace : Chars → Frame → Trace
frame_trace s f = whole s f.tasks.items (gives (record { place = f.place; captures = f.captures.items }) ∷ [])

-- the last frame first
unfoldable pub pile_trace : Chars → List Frame → Trace
pile_trace s [] = []
pile_trace s (f ∷ fs) = pile_trace s fs ++ frame_trace s f

-- a pile that gives, before all that it gave, what tasks make of a trace
abbrev pub Adds : Chars → List Frame → List Frame → List Task → Trace → Type 0
Adds s old new ts e = pile_trace s new ≡ whole s ts e ++ pile_trace s old

-- what a lookaround gives once the search inside has ended
abbrev pub answer : Look → State → First → Trace
answer look x (Found cs) = if look.wanted then gives (record { place = x.place; captures = cs.items }) ∷ [] else []
answer look x Missing = if look.wanted then [] else gives x ∷ []
answer look x Limit = []

abbrev pub is_limit : First → Bool
is_limit (Found cs) = false
is_limit Missing = false
is_limit Limit = true

-- what was found is how the search ends, with so many steps left
abbrev pub Says : First → ℕ → Ending → Type 0
Says (Found cs) n v = (x : State) × (v ≡ found_at x n) × (x.captures ≡ cs.items)
Says Missing n v = v ≡ none_left n
Says Limit n v = v ≡ at_limit

-- the search goes on to the same ending, or is at the limit
abbrev pub Goes : Bool → Ending → Ending → Type 0
Goes true v w = v ≡ w
Goes false v w = v ≡ at_limit

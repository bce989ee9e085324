-- How many steps a search takes. The trace of a node is its list of results (specs/Matching of
-- pattern_trees) with a mark for each step that the machine takes between them. Without the marks it is
-- that list (proofs/Erasing). With them it is fixed at which limit a search is left unfinished.
use Rattle.std.specs.Prelude.{ℕ, zero, suc, ◌+◌, Bool, true, false, List, [], ◌∷◌, ◌++◌, Option, Some, None, length, if◌then◌else◌, nat_eq, slice_index_or}
use Rattle.std.specs.List.{flat_map}
use Rattle.pattern_trees.specs.declared.tree.Turns.{Turns}
use Rattle.pattern_trees.specs.declared.tree.Look.{Look}
use Rattle.pattern_trees.specs.Nodes.{Node, Nothing, OneOf, At, Reference, Group, Around, Times, Pair, Choice}
use Rattle.pattern_trees.specs.Matching.{Chars, Captures, State, only_if, holds_at, after_char, after_reference, closed, is_idle, is_spent, fewer, fresh, nothing_captured}

pub data Event : Type 0 where
  -- the machine takes a step
  step : Event
  -- a result
  gives : State → Event

abbrev pub Trace : Type 0
Trace = List Event

-- a trace that goes on from each result of another
abbrev pub onward : (State → Trace) → Event → Trace
onward f step = step ∷ []
onward f (gives x) = f x

abbrev pub after : (State → Trace) → Trace → Trace
after f e = flat_map (onward f) e

-- one step, and then a trace
abbrev pub stepping : (State → Trace) → State → Trace
stepping f x = step ∷ f x

-- the state that goes on, if there is a place to go on from
abbrev pub then_gives : Captures → Option ℕ → Trace
then_gives cs None = []
then_gives cs (Some i) = gives (record { place = i; captures = cs }) ∷ []

-- a result is taken out by a step of its own
abbrev pub ended : State → Trace
ended x = step ∷ gives x ∷ []

-- a lookaround (22.2.2.4) takes the steps of the search inside, up to its first result
abbrev pub sought : Look → State → Trace → Trace
sought look x [] = if look.wanted then [] else gives x ∷ []
sought look x (step ∷ e) = step ∷ sought look x e
sought look x (gives y ∷ e) = if look.wanted then gives (record { place = x.place; captures = y.captures }) ∷ [] else []

-- a quantifier (22.2.2.3.1): a step after each turn
abbrev pub ordered_trace : Turns → Trace → State → Trace
ordered_trace t more x = if nat_eq t.min 0 then (if t.greedy then more ++ gives x ∷ [] else gives x ∷ more) else more

abbrev pub repeated_trace : (State → Trace) → ℕ → Turns → State → Trace
repeated_trace body zero t x = gives x ∷ []
repeated_trace body (suc left) t x =
    if is_spent t.max then gives x ∷ []
    else ordered_trace t (after (λ y. step ∷ (if is_idle t x.place y then [] else repeated_trace body left (fewer t) y)) (body (fresh t x))) x

-- one after the other, or back the other first
abbrev pub pair_trace : (State → Trace) → (State → Trace) → Bool → State → Trace
pair_trace one other true x = after other (one x)
pair_trace one other false x = after one (other x)

-- a node (22.2.2.3), after the step that enters it
abbrev pub entered : Node → Bool → Chars → State → Trace
entered Nothing ahead s x = gives x ∷ []
entered (OneOf spans) ahead s x = then_gives x.captures (after_char spans ahead s x.place)
entered (At edge) ahead s x = then_gives x.captures (only_if (holds_at edge s x.place) x.place)
entered (Reference k) ahead s x = then_gives x.captures (after_reference (slice_index_or x.captures k None) ahead s x.place)
entered (Group k a) ahead s x = after (λ y. step ∷ gives (closed k ahead x.place y) ∷ []) (stepping (entered a ahead s) x)
entered (Around look a) ahead s x = sought look x (after ended (stepping (entered a look.ahead s) x))
entered (Times t a) ahead s x = repeated_trace (stepping (entered a ahead s)) (t.min + length s) t x
entered (Pair a b) ahead s x = pair_trace (stepping (entered a ahead s)) (stepping (entered b ahead s)) ahead x
entered (Choice a b) ahead s x = stepping (entered a ahead s) x ++ stepping (entered b ahead s) x

-- a search of a node from a state
abbrev pub whole_trace : Node → Bool → Chars → State → Trace
whole_trace a ahead s x = after ended (stepping (entered a ahead s) x)

-- how a search ends with so many steps at hand, and how many are left then
pub data Ending : Type 0 where
  found_at : State → ℕ → Ending
  none_left : ℕ → Ending
  at_limit : Ending

abbrev pub within : ℕ → Trace → Ending
within n [] = none_left n
within zero (step ∷ e) = at_limit
within (suc n) (step ∷ e) = within n e
within zero (gives x ∷ e) = found_at x zero
within (suc n) (gives x ∷ e) = found_at x (suc n)

-- the search from each place on (22.2.7.2), whose steps are counted together: none at the limit, else
-- whether there is a match
abbrev pub decided_on : (ℕ → Option Bool) → Ending → Option Bool
decided_on later (found_at x n) = Some true
decided_on later (none_left n) = later n
decided_on later at_limit = None

unfoldable pub decided_from : Node → ℕ → Chars → ℕ → ℕ → ℕ → Option Bool
decided_from a groups s zero i n = Some false
decided_from a groups s (suc k) i n = decided_on (decided_from a groups s k (i + 1)) (within n (whole_trace a true s (nothing_captured groups i)))

-- whether there is a match, unless it takes more than so many steps to know
abbrev pub decided : Node → ℕ → Chars → ℕ → Option Bool
decided a groups s limit = decided_from a groups s (length s + 1) 0 limit

-- the steps before the first result, or all of them if there is none
abbrev pub needed : Trace → ℕ
needed [] = 0
needed (step ∷ e) = suc (needed e)
needed (gives x ∷ e) = 0

unfoldable pub needed_from : Node → ℕ → Chars → ℕ → ℕ → ℕ
needed_from a groups s zero i = 0
needed_from a groups s (suc k) i = needed (whole_trace a true s (nothing_captured groups i)) + needed_from a groups s k (i + 1)

-- so many steps are enough
abbrev pub needed_in_all : Node → ℕ → Chars → ℕ
needed_in_all a groups s = needed_from a groups s (length s + 1) 0

-- Laws of each step while keys are found, in terms of edges alone. If targets are open one inside
-- another, each was requested by the key of the one around it, and no more of their edges nest than
-- the limit allows. And a number is final if and only if each edge that its key requests led to a
-- number that was final then.
use Rattle.std.specs.Prelude.{List, [], if◌then◌else◌, length, slice_get, suc, true, ℕ, ◌<◌, ◌↔◌, ◌∷◌, ◌≡◌, ◌≤◌}
use Rattle.theory_definitions.specs.Parts.{Parts}
use Rattle.theory_definitions.specs.Plan.{Edge, Key}
use Rattle.theory_meaning.specs.Reach.{asked_edges}
use Rattle.schema_compiler.specs.Finding.{Course, Finds, IsNew, Visits, and_then, begun, closed, formed, is_settled, nests, no_more, passed, round_begun}

-- how many of these edges nest
abbrev pub nesting_count : {S : Type 0} → List (Edge S) → ℕ
nesting_count [] = 0
nesting_count (e ∷ es) = if nests e then suc (nesting_count es) else nesting_count es

module _ {S K R : Type 0} (w : Parts S K R) (nested : ℕ) where
  -- from a course on, inside the targets of the open edges `around`, the finding of keys comes to
  -- another course, where the targets of these edges are open, the innermost first
  pub data ComesTo : List (Edge S) → Course S → List (Edge S) → List (Edge S) → Course S → Type 0 where
    comes_here : {around : List (Edge S)} {c : Course S} {es : List (Edge S)} → ComesTo around c es around c
    comes_inside : {around : List (Edge S)} {c : Course S} {e : Edge S} {es : List (Edge S)} {inner : List (Edge S)} {d : Course S}
        → IsNew c e.key → (nests e ≡ true → c.depth < nested) → ComesTo (e ∷ around) (begun c e) (asked_edges w e.key) inner d → ComesTo around c (e ∷ es) inner d
    comes_past : {around : List (Edge S)} {c : Course S} {e : Edge S} {es : List (Edge S)} {inner : List (Edge S)} {d : Course S} (x : Course S) (i : ℕ)
        → Visits w nested c e x i → ComesTo around (passed x i) es inner d → ComesTo around c (e ∷ es) inner d

  -- at each step of a round, at most this many open targets belong to edges that nest
  abbrev pub NestsWithin : Type 0
  NestsWithin = (c : Course S) (i : ℕ) (k : Key S) (around : List (Edge S)) (d : Course S) → ComesTo [] (round_begun c i) (asked_edges w k) around d → nesting_count around ≤ nested

  -- each of these edges led to a number that was final when the edge was made
  abbrev pub LedToSettled : {c : Course S} {es : List (Edge S)} {d : Course S} → Finds w nested c es d → Type 0
  LedToSettled no_more = Unit {0}
  LedToSettled (and_then d i v f) = (is_settled (slice_get d.standings i) ≡ true) × LedToSettled f

  -- a number that was opened, or that waited, is final if and only if this holds for the edges that
  -- its key requests
  abbrev pub SettledByEdges : Type 0
  SettledByEdges = ((c : Course S) (e : Edge S) (d : Course S) → length c.standings ≡ length c.keys → (f : Finds w nested (begun c e) (asked_edges w e.key) d)
      → (is_settled (slice_get (closed c d).standings (length c.keys)) ≡ true) ↔ LedToSettled f)
      × ((c : Course S) (i : ℕ) (k : Key S) (d : Course S) → i < length c.standings → (f : Finds w nested (round_begun c i) (asked_edges w k) d)
      → (is_settled (slice_get (formed d i).standings i) ≡ true) ↔ LedToSettled f)

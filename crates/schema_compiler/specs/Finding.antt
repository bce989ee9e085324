-- How keys are found: which are compiled inside the one that requests them, which wait, and in
-- which order their nodes get their forms. Only so many targets of references may be open one
-- inside another; a new one that is found then waits, and is compiled in a round of its own, in the
-- order of finding. The target of a `$recursiveRef` never waits.
use Rattle.std.specs.Prelude.{Bool, List, None, Option, Some, [], false, if◌then◌else◌, length, nat_le, not, slice_get, slice_set, suc, true, unwrap_or, ℕ, ◌&&◌, ◌++◌, ◌<◌, ◌==◌, ◌||◌, ◌∷◌, ◌≡◌, ◌≢◌, ◌≤◌}
use Rattle.theory_definitions.specs.Parts.{Parts}
use Rattle.theory_definitions.specs.Plan.{Edge, Key}
use Rattle.theory_meaning.specs.Reach.{asked_edges}
use Rattle.theory_definitions.specs.Guarded.{NodeEdge, NodePlan, node_edges}
use Rattle.schema_node_table.specs.NodeTable.{NodeEntry}
use Rattle.schema_keys.specs.Compiling.{In}

-- the state of a number that was found: it waits; or it is open, in the round that began with this
-- number; or it has its form, from that round, with this many before it, and is final or not
pub data Standing : Type 0 where
  waits : Standing
  is_open : (round : ℕ) → Standing
  is_formed : (round order : ℕ) (settled : Bool) → Standing

abbrev pub standing_of : {C : Type 0} → NodeEntry C → Standing
standing_of n = elim n.plan [
  | None ↦ elim n.round [ None ↦ waits | Some r ↦ is_open r ]
  | Some p ↦ is_formed (unwrap_or n.round 0) n.order n.settled
]

-- how many have their form
abbrev pub formed_count : List Standing → ℕ
formed_count [] = 0
formed_count (waits ∷ ss) = formed_count ss
formed_count (is_open r ∷ ss) = formed_count ss
formed_count (is_formed r o b ∷ ss) = suc (formed_count ss)

-- it has its form and is final
abbrev pub is_settled : Option Standing → Bool
is_settled (Some (is_formed r o b)) = b
is_settled _ = false

-- an edge is guarded if its target was in progress when the edge was made, which holds if both are
-- of one round and the target gets its form no earlier; or if the target was of an earlier round
-- and not final
abbrev pub guards_edge : Standing → Standing → Bool
guards_edge (is_formed r o b) (is_formed q p s) = if q == r then nat_le o p else (nat_le (suc q) r && not s)
guards_edge (is_formed r o b) (is_open q) = q == r
guards_edge _ _ = false

-- the progress of finding keys: the keys in the order of finding and the state of each, the number
-- that the round began with, how many targets of references are open, and whether an edge was made
-- to a number that was not final, since the innermost open number was begun
pub record Course (S : Type 0) : Type 0 where
  pub keys : List (Key S)
  pub standings : List Standing
  pub round : ℕ
  pub depth : ℕ
  pub loose : Bool

module _ {S : Type 0} where
  -- an edge nests if it is that of a `$ref` or a `$dynamicRef`
  abbrev pub nests : Edge S → Bool
  nests e = e.is_reference && not e.is_recursive

  abbrev pub IsNew : Course S → Key S → Type 0
  IsNew c k = (i : ℕ) → slice_get c.keys i ≢ Some k

  -- a key is put on the list
  abbrev pub put : Course S → Key S → Course S
  put c k = record c { keys = c.keys ++ k ∷ []; standings = c.standings ++ waits ∷ [] }

  -- the target of an edge is begun, inside what is open
  abbrev pub begun : Course S → Edge S → Course S
  begun c e = record c {
    keys = c.keys ++ e.key ∷ [];
    standings = c.standings ++ is_open c.round ∷ [];
    depth = if nests e then suc c.depth else c.depth;
    loose = false;
  }

  -- a number gets its form: it is final if all edges led to final numbers
  abbrev pub formed : Course S → ℕ → Course S
  formed c i = record c { standings = slice_set c.standings i (is_formed c.round (formed_count c.standings) (not c.loose)) }

  -- the number that was begun after this course has got its form
  abbrev pub closed : Course S → Course S → Course S
  closed before c = record (formed c (length before.keys)) { depth = before.depth; loose = before.loose }

  -- an edge was made to this number
  abbrev pub passed : Course S → ℕ → Course S
  passed c i = record c { loose = c.loose || not (is_settled (slice_get c.standings i)) }

  -- a round begins with this number, which waited
  abbrev pub round_begun : Course S → ℕ → Course S
  round_begun c i = record c { standings = slice_set c.standings i (is_open i); round = i; depth = 0; loose = false }

  -- only the root's key is found, and it waits
  abbrev pub at_root : Key S → Course S
  at_root root = record { keys = root ∷ []; standings = waits ∷ []; round = 0; depth = 0; loose = false }

module _ {S K R : Type 0} (w : Parts S K R) (nested : ℕ) where
  mutual
    -- the target of an edge has a number. It had one; or it is new and waits, if as many targets
    -- are open as may nest; or it is new and compiled at once, with everything that its key
    -- requests
    pub data Visits : Course S → Edge S → Course S → ℕ → Type 0 where
      was_found : {c : Course S} {e : Edge S} {i : ℕ} → slice_get c.keys i ≡ Some e.key → Visits c e c i
      is_put : {c : Course S} {e : Edge S} {c' : Course S} {i : ℕ} → IsNew c e.key → nests e ≡ true → nested ≤ c.depth → c' ≡ put c e.key → i ≡ length c.keys → Visits c e c' i
      is_opened : {c : Course S} {e : Edge S} {c' : Course S} {i : ℕ} (d : Course S) → IsNew c e.key → (nests e ≡ true → c.depth < nested) → Finds (begun c e) (asked_edges w e.key) d
          → c' ≡ closed c d → i ≡ length c.keys → Visits c e c' i

    -- the targets of edges have numbers, one after another
    pub data Finds : Course S → List (Edge S) → Course S → Type 0 where
      no_more : {c : Course S} → Finds c [] c
      and_then : {c : Course S} {e : Edge S} {es : List (Edge S)} (d : Course S) (i : ℕ) {c' : Course S} → Visits c e d i → Finds (passed d i) es c' → Finds c (e ∷ es) c'

  -- the list is worked off from this number on
  pub data WorksOff : ℕ → Course S → Course S → Type 0 where
    at_end : {i : ℕ} {c : Course S} → length c.keys ≤ i → WorksOff i c c
    passes_over : {i : ℕ} {c c' : Course S} → i < length c.keys → slice_get c.standings i ≢ Some waits → WorksOff (suc i) c c' → WorksOff i c c'
    in_a_round : {i : ℕ} {c c' : Course S} (k : Key S) (d : Course S) → slice_get c.keys i ≡ Some k → slice_get c.standings i ≡ Some waits → Finds (round_begun c i) (asked_edges w k) d
        → WorksOff (suc i) (formed d i) c' → WorksOff i c c'

  -- the keys that the root's key reaches are found in this order, and in the end their numbers have
  -- these states
  abbrev pub FindsAll : Key S → List (Key S) → List Standing → Type 0
  FindsAll root keys standings = (c : Course S) × WorksOff 0 (at_root root) c × (c.keys ≡ keys) × (c.standings ≡ standings)

-- every edge is guarded as the states of its source and its target say
abbrev pub GuardsByStanding : {C : Type 0} → List (NodeEntry C) → Type 0
GuardsByStanding {C} nodes = (i : ℕ) (n : NodeEntry C) (p : NodePlan C) (e : NodeEdge) (m : NodeEntry C) → slice_get nodes i ≡ Some n → n.plan ≡ Some p → In (node_edges p) e → slice_get nodes e.node ≡ Some m
    → e.guarded ≡ guards_edge (standing_of n) (standing_of m)

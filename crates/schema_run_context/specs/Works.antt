-- The number of nodes that a call may still evaluate, and how many may be open at once.
use Rattle.std.specs.Prelude.{ℕ, ◌≡◌, ◌≤◌, ◌<◌, Bool, true, false, IfSome, None, Option, Some, if◌then◌else◌, is_some}

-- a budget: how many nodes may still be evaluated, whether there is a limit at all, and whether the
-- call tried to exceed it; how many questions may be open at once, if there is a limit, and whether
-- the call tried to open one more
pub record Budget : Type 0 where
  pub left : ℕ
  pub limited : Bool
  pub stopped : Bool
  pub deepest : Option ℕ
  pub too_deep : Bool

-- the budget without a limit
abbrev pub unlimited : Budget
unlimited = record { left = 18446744073709551615; limited = false; stopped = false; deepest = None; too_deep = false }

-- the budget of a limit on nodes, or the one without a limit
abbrev pub allowed : Option ℕ → Budget
allowed None = unlimited
allowed (Some n) = record { left = n; limited = true; stopped = false; deepest = None; too_deep = false }

-- the number of nodes that are left, if there is a limit
abbrev pub left_of : Budget → Option ℕ
left_of w = if w.limited then Some w.left else None

-- there is a limit, and no nodes are left
abbrev pub IsSpent : Budget → Type 0
IsSpent w = (w.limited ≡ true) × (w.left ≡ 0)

-- the same budget, in which this many questions may be open at once
abbrev pub down_to : Option ℕ → Budget → Budget
down_to most w = record w { deepest = most; too_deep = false }

-- there is a limit on the questions that are open at once
abbrev pub IsBoundedInDepth : Budget → Type 0
IsBoundedInDepth w = is_some w.deepest ≡ true

-- fewer questions are open than may be at once, if there is a limit
abbrev pub HasRoom : Option ℕ → ℕ → Type 0
HasRoom deepest open_above = IfSome deepest (λ most. open_above < most)

-- later no more nodes are left than before, and as many questions may be open at once
pub record Spends (w w' : Budget) : Type 0 where
  pub limited : w'.limited ≡ w.limited
  pub left : w'.left ≤ w.left
  pub deepest : w'.deepest ≡ w.deepest

-- a node was evaluated: if there is a limit, then at least one node fewer is left
pub record Asks (w w' : Budget) : Type 0 where
  pub limited : w'.limited ≡ w.limited
  pub left : w'.left ≤ w.left
  pub fewer : w.limited ≡ true → w'.left < w.left
  pub deepest : w'.deepest ≡ w.deepest

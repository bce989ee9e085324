-- The units of a plan's entries, placed one entry after the other: first those of the absorbed
-- types, then those of the entries that come before the absorbed counts, then the counts, and then
-- those of the other entries.
use Rattle.std.specs.Prelude.{Bool, List, [], false, filter, if◌then◌else◌, map, nat_le, not, true, ℕ, ◌++◌, ◌||◌, ◌∷◌}
use Rattle.theory_definitions.specs.Instance.{Text}
use Rattle.theory_definitions.specs.Reports.{Unit_}
use Rattle.theory_definitions.specs.Units.{Entry, is_type}

-- The units placed so far: absorbed types, units before the counts, absorbed counts, and units
-- after them.
pub record Placed : Type 0 where
  pub types : List Unit_
  pub before : List Unit_
  pub counts : List Unit_
  pub after : List Unit_

-- No unit is placed yet.
abbrev pub nothing_placed : Placed
nothing_placed = record { types = []; before = []; counts = []; after = [] }

-- The list contains a unit.
abbrev pub is_any : List Unit_ → Bool
is_any [] = false
is_any (u ∷ us) = true

-- An entry of priority 22 or more comes after the absorbed counts, and so does each entry after it.
abbrev pub comes_after : Placed → ℕ → Bool
comes_after u priority = nat_le 22 priority || is_any u.after

-- The placed units with those that an entry absorbs.
abbrev pub with_absorbed : Placed → List (Text × Unit_) → Placed
with_absorbed u absorbed = record u {
  types = u.types ++ map (λ a. a.1) (filter is_type absorbed);
  counts = u.counts ++ map (λ a. a.1) (filter (λ a. not (is_type a)) absorbed);
}

-- The placed units with the own unit of an entry.
abbrev pub with_own : Placed → ℕ → Unit_ → Placed
with_own u priority own = if comes_after u priority then record u { after = u.after ++ own ∷ [] } else record u { before = u.before ++ own ∷ [] }

-- The placed units with all units of an entry.
abbrev pub placed : Placed → Entry → Placed
placed u x = with_own (with_absorbed u x.units.1) x.priority x.units.0

-- The placed units with all units of several entries in order.
abbrev pub each_placed : Placed → List Entry → Placed
each_placed u [] = u
each_placed u (x ∷ xs) = each_placed (placed u x) xs

-- All placed units in order.
abbrev pub all_placed : Placed → List Unit_
all_placed u = u.types ++ (u.before ++ (u.counts ++ u.after))

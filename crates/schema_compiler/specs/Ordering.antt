-- Keywords are inserted by priority, one after another.
use Rattle.std.specs.Prelude.{List, [], if◌then◌else◌, nat_le, ◌∷◌}
use Rattle.theory_definitions.specs.Guarded.{NodePart}

-- a keyword is inserted after the leading ones with its priority or a lower one
abbrev pub placed_after : {K : Type 0} → NodePart K → List (NodePart K) → List (NodePart K)
placed_after x [] = x ∷ []
placed_after x (y ∷ ys) = if nat_le y.priority x.priority then y ∷ placed_after x ys else x ∷ y ∷ ys

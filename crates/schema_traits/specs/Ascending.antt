-- The position of a name among others.
use Rattle.std.specs.Prelude.{Bool, List, [], bytes_eq, cond, false, true, ℕ, ◌+◌, ◌∷◌}
use Rattle.std.specs.Cmp.Lexicographic.{slice_cmp}
use Rattle.std.specs.Ordering.{is_lt, nat_cmp}
use Rattle.theory_definitions.specs.Instance.{Text}

-- the index of the first name that is not below k, and whether that name is k itself, if the first
-- name of the list has index i; if there is no such name, the index after the last
abbrev pub place_from : Text → ℕ → List Text → ℕ × Bool
place_from k i [] = (i, false)
place_from k i (name ∷ names) = cond (bytes_eq name k) (i, true) (cond (is_lt (slice_cmp nat_cmp k name)) (i, false) (place_from k (i + 1) names))

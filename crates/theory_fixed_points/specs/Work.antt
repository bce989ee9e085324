-- A bound on the work of a solver: how many pairs it begins, relative to the number of all pairs.
use Rattle.std.specs.List.{list_any}
use Rattle.std.specs.Prelude.{Bool, List, None, Option, Some, [], false, if◌then◌else◌, length, map, true, ℕ, ◌*◌, ◌++◌, ◌+◌, ◌||◌, ◌∷◌, ◌≡◌, ◌≤◌}
use Rattle.theory_definitions.specs.Instance.{Place, same_place}
use Rattle.theory_fixed_points.specs.Found.{Found, is_this}

-- The pairs that may be begun.
abbrev pub Pairs : Type 0
Pairs = List (ℕ × Place)

-- The sum of a value over these pairs.
abbrev pub sum_over : (ℕ → Place → ℕ) → Pairs → ℕ
sum_over a [] = 0
sum_over a (e ∷ es) = a e.0 e.1 + sum_over a es

-- 1 for a yes, and 0 for a no.
abbrev pub one_if : Bool → ℕ
one_if b = if b then 1 else 0

-- The pair is one of them.
abbrev pub IsAmong : Pairs → ℕ → Place → Type 0
IsAmong all i p = list_any (λ e. is_this i p e.0 e.1) all ≡ true

-- At each place there are at most this many of them.
abbrev pub AtMostAt : Pairs → ℕ → Type 0
AtMostAt all most = (p : Place) → sum_over (λ j q. one_if (same_place p q)) all ≤ most

-- The greatest cost that a pair may have had: the number of pairs at a place if it is refused, and
-- one if it counts as yes.
abbrev pub weight_of : ℕ → Option Bool → Bool → ℕ
weight_of most None accepts = one_if accepts
weight_of most (Some true) accepts = 1
weight_of most (Some false) accepts = most

-- The greatest cost that a pair may have had, after what is found so far.
abbrev pub weight : ℕ → Found → ℕ → Place → ℕ
weight most f i p = weight_of most (f.known i p) (f.busy i p || f.assumed i p)

-- The number of pairs begun is at most the sum of the greatest costs of all pairs.
abbrev pub IsCounted : Pairs → ℕ → Found → ℕ → Type 0
IsCounted all most f begun = begun ≤ sum_over (weight most f) all

-- So the number of pairs begun is never more than this.
abbrev pub IsBounded : Pairs → ℕ → ℕ → Type 0
IsBounded all most begun = begun ≤ length all * most

-- ---- the pairs of some numbers and places

-- The pairs of these numbers and these places.
abbrev pub pairs_of : List ℕ → List Place → Pairs
pairs_of [] ps = []
pairs_of (n ∷ ns) ps = map (λ p. (n, p)) ps ++ pairs_of ns ps

-- The number of times that a place occurs in a list.
abbrev pub how_often : Place → List Place → ℕ
how_often p [] = 0
how_often p (q ∷ qs) = one_if (same_place p q) + how_often p qs

-- No place occurs twice.
abbrev pub EachOnce : List Place → Type 0
EachOnce ps = (p : Place) → how_often p ps ≤ 1

-- So for g numbers and p places at most g * p * g pairs are begun.
abbrev pub IsBoundedBy : List ℕ → List Place → ℕ → Type 0
IsBoundedBy ns ps begun = begun ≤ length ns * length ps * length ns

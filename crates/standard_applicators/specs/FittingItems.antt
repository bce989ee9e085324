-- `contains` accepts a list if the number of items that fit its schema is at least `minContains`,
-- which is 1 if it is missing, and at most `maxContains`, if that is present. It accepts whatever
-- is no list. The schema's results come in the order of the items. (Core 2020-12, 10.3.1.3;
-- Validation 2020-12, 6.4.4 and 6.4.5)
use Rattle.std.specs.Prelude.{Bool, List, None, Option, Some, filter, length, ℕ, ◌≤◌}

abbrev pub how_many_fit : List Bool → ℕ
how_many_fit verdicts = length (filter (λ fits. fits) verdicts)

abbrev pub IsAtMost : Option ℕ → ℕ → Type 0
IsAtMost None n = Unit {0}
IsAtMost (Some most) n = n ≤ most

pub record SoManyFit (least : ℕ) (most : Option ℕ) (verdicts : List Bool) : Type 0 where
  pub enough : least ≤ how_many_fit verdicts
  pub not_too_many : IsAtMost most (how_many_fit verdicts)

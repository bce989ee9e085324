-- The last place before a test turns: the test held there, or it is the first place, and the test
-- did not hold at the next place, or that is the end.
use Rattle.std.specs.Prelude.{ℕ, Bool, true, false, ◌⊎◌, ◌≡◌, ◌<◌, ◌≤◌}
use Rattle.json_decimals.specs.declared.searches.Bracket.{Bracket}

pub record IsBracket (test : ℕ → Bool → Type 0) (first end : ℕ) (b : Bracket) : Type 0 where
  pub within : (first ≤ b.low) × (b.low < b.high) × (b.high ≤ end)
  pub holds : (b.low ≡ first) ⊎ test b.low true
  pub fails : (b.high ≡ end) ⊎ test b.high false

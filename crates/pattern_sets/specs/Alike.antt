-- Patterns that match alike.
use Rattle.std.specs.Prelude.{ℕ, ◌-◌, List, option_map}
use Rattle.pattern_trees.specs.Patterns.{Matches, Pattern, Repeat}
use Rattle.pattern_trees.specs.declared.tree.Turns.{Turns}

-- two patterns match each text from the same positions to the same others
pub record AreAlike (p q : Pattern) : Type 0 where
  pub there : (text : List ℕ) (i j : ℕ) → Matches p text i j → Matches q text i j
  pub back : (text : List ℕ) (i j : ℕ) → Matches q text i j → Matches p text i j

-- a pattern repeated as a quantifier says (ECMA-262, 22.2.2.3.1, RepeatMatcher)
abbrev pub repeat_of : Turns → Pattern → Pattern
repeat_of t p = Repeat t.min (option_map (λ most. most - t.min) t.max) p

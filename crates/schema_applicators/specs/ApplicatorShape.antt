-- A keyword's shape: what is known of it apart from its representation.
use Rattle.std.specs.Prelude.{Bool, Option, false, not, true, ℕ}
use Rattle.theory_definitions.specs.Instance.{Text}

pub data ApplicatorShape : Type 0 where
  -- the number of schemas
  has_all_of : ℕ → ApplicatorShape
  has_any_of : ℕ → ApplicatorShape
  has_one_of : ℕ → ApplicatorShape
  -- the schema's text, and whether it contains a fraction
  has_not : Text → Bool → ApplicatorShape
  -- the numbers of the children for `then` and `else`, if they are present
  has_if : Option ℕ → Option ℕ → ApplicatorShape

-- whether none of its texts shows a fraction that the schema contains
abbrev pub is_whole : ApplicatorShape → Bool
is_whole (has_all_of n) = true
is_whole (has_any_of n) = true
is_whole (has_one_of n) = true
is_whole (has_not schema fraction) = not fraction
is_whole (has_if accepted refused) = true

-- whether the keyword declares itself monotone
abbrev pub says_monotone : ApplicatorShape → Bool
says_monotone (has_all_of n) = true
says_monotone (has_any_of n) = true
says_monotone (has_one_of n) = false
says_monotone (has_not schema fraction) = false
says_monotone (has_if accepted refused) = false

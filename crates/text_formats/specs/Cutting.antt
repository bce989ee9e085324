-- Cutting a text: at the first mark, at each mark, after a character, after digits.
use Rattle.std.proofs.Common.{Bor}
use Rattle.std.specs.Prelude.{Bool, List, None, Option, Some, [], drop, false, if◌then◌else◌, option_map, position, take, true, ℕ, ◌+◌, ◌==◌, ◌∷◌}
use Rattle.std.specs.List.{slice_split}
use Rattle.text_formats.specs.Characters.{Text, is_digit}

-- a text that was read, if there is one
abbrev pub text_read : Option (Bor Text) → Option Text
text_read o = option_map (λ t. t.now) o

abbrev pub is_empty : Text → Bool
is_empty [] = true
is_empty (c ∷ cs) = false

-- the texts before and after the first mark
abbrev pub cut : ℕ → Text → Option (Text × Text)
cut m t = option_map (λ n. (take n t, drop (n + 1) t)) (position (λ c. c == m) t)

-- the parts of a text between marks, one more than there are marks
abbrev pub parts : ℕ → Text → List Text
parts m t = slice_split (λ c. c == m) t

-- the text after this character, if the text begins with it
abbrev pub after : ℕ → Text → Option Text
after m [] = None
after m (c ∷ cs) = if c == m then Some cs else None

-- the text after the digits that it begins with, if there are any
abbrev pub past_digits : Text → Text
past_digits [] = []
past_digits (c ∷ cs) = if is_digit c then past_digits cs else c ∷ cs

-- the text after 1*DIGIT
abbrev pub after_digits : Text → Option Text
after_digits [] = None
after_digits (c ∷ cs) = if is_digit c then Some (past_digits cs) else None

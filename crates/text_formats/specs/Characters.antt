-- Classes of ASCII characters, and the number that decimal digits denote. (RFC 5234, appendix B.1:
-- ALPHA, DIGIT, HEXDIG)
use Rattle.std.specs.Prelude.{Bool, List, [], false, if◌then◌else◌, length, nat_le, slice_index, true, ◌&&◌, ◌*◌, ◌+◌, ◌-◌, ◌==◌, ◌||◌, ◌∷◌, ℕ}

abbrev pub Text : Type 0
Text = List ℕ

-- a character from low to high, both included
abbrev pub is_between : ℕ → ℕ → ℕ → Bool
is_between low high c = nat_le low c && nat_le c high

-- `0` to `9`
abbrev pub is_digit : ℕ → Bool
is_digit c = is_between 48 57 c

-- `A` to `Z`, `a` to `z`
abbrev pub is_letter : ℕ → Bool
is_letter c = is_between 65 90 c || is_between 97 122 c

-- a digit, `A` to `F`, `a` to `f`
abbrev pub is_hex_digit : ℕ → Bool
is_hex_digit c = is_digit c || is_between 65 70 c || is_between 97 102 c

-- the number that a decimal digit denotes
abbrev pub value : ℕ → ℕ
value c = c - 48

-- the number that two decimal digits denote, the first of them at this index of the text
abbrev pub two : Text → ℕ → ℕ
two t k = 10 * value (slice_index t k) + value (slice_index t (k + 1))

-- the number that four decimal digits denote, the first of them at this index of the text
abbrev pub four : Text → ℕ → ℕ
four t k = 100 * two t k + two t (k + 2)

-- a character of a picture matches a character: `0` matches any digit, `x` any hex digit, and every
-- other one only itself
abbrev pub is_like : ℕ → ℕ → Bool
is_like p c = if p == 48 then is_digit c else if p == 120 then is_hex_digit c else c == p

-- each character of a picture matches the one at the same index in a text
abbrev pub are_like : Text → Text → Bool
are_like [] cs = true
are_like (p ∷ ps) [] = false
are_like (p ∷ ps) (c ∷ cs) = is_like p c && are_like ps cs

-- a text has the length of a picture, and matches it
abbrev pub fits : Text → Text → Bool
fits ps cs = (length cs == length ps) && are_like ps cs

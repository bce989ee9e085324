-- Numbers in digits, and characters by their numbers. A production is a function from the text that
-- is left to what it reads and the text that is left then. Where the text begins with none, it
-- gives nothing or a fault.
use Rattle.std.specs.Prelude.{ℕ, ◌+◌, ◌-◌, ◌*◌, Bool, true, false, ◌&&◌, ◌||◌, ◌==◌, nat_le, min, List, [], ◌∷◌, Option, Some, None, option_map, option_and_then, if◌then◌else◌, Result, Ok, Err}
use Rattle.pattern_characters.specs.declared.faults.Fault.{Fault}

-- the code points of a pattern that are left to read
abbrev pub Text : Type 0
Text = List ℕ

-- one step after another, up to the first fault
infixl 10 ◌>>=◌
abbrev pub ◌>>=◌ : {A B : Type 0} → Result A Fault → (A → Result B Fault) → Result B Fault
(Ok a) >>= f = f a
(Err e) >>= f = Err e

-- what is there, or a fault
abbrev pub or_fault : {A : Type 0} → Fault → Option A → Result A Fault
or_fault e None = Err e
or_fault e (Some a) = Ok a

-- what the code has, as the definition has it
abbrev pub seen : {A B E : Type 0} → (A → B) → Result A E → Result B E
seen f (Ok a) = Ok (f a)
seen f (Err e) = Err e

abbrev pub is_between : ℕ → ℕ → ℕ → Bool
is_between low high c = nat_le low c && nat_le c high

-- DecimalDigit
abbrev pub is_digit : ℕ → Bool
is_digit c = is_between 48 57 c

-- OctalDigit (B.1.2)
abbrev pub is_octal : ℕ → Bool
is_octal c = is_between 48 55 c

-- AsciiLetter
abbrev pub is_letter : ℕ → Bool
is_letter c = is_between 65 90 c || is_between 97 122 c

-- the text begins with such a character
abbrev pub starts : (ℕ → Bool) → Text → Bool
starts p [] = false
starts p (c ∷ rest) = p c

-- the text after this character, if the text begins with it
abbrev pub after : ℕ → Text → Option Text
after mark [] = None
after mark (c ∷ rest) = if c == mark then Some rest else None

-- HexDigit
abbrev pub hex_digit : ℕ → Option ℕ
hex_digit c =
    if is_between 48 57 c then Some (c - 48)
    else if is_between 65 70 c then Some (c - 55)
    else if is_between 97 102 c then Some (c - 87)
    else None

abbrev pub both : ℕ → Option ℕ → Option ℕ → Option ℕ
both base a b = option_and_then (λ x. option_map (λ y. base * x + y) b) a

-- HexDigit HexDigit
abbrev pub hex_pair : Text → Option (ℕ × Text)
hex_pair [] = None
hex_pair (a ∷ []) = None
hex_pair (a ∷ b ∷ rest) = option_map (λ n. (n, rest)) (both 16 (hex_digit a) (hex_digit b))

-- Hex4Digits
unfoldable pub hex_four : Text → Option (ℕ × Text)
hex_four text = option_and_then (λ p. option_map (λ q. (256 * p.0 + q.0, q.1)) (hex_pair p.1)) (hex_pair text)

-- the number with one more hexadecimal digit, if it is a code point
abbrev pub with_digit : ℕ → Option ℕ → Option ℕ
with_digit value None = None
with_digit value (Some d) = if nat_le (16 * value + d) 0x10_FFFF then Some (16 * value + d) else None

-- hexadecimal digits up to the closing brace
abbrev pub hex_from : Option ℕ → Text → Option (ℕ × Text)
hex_from None text = None
hex_from (Some value) [] = None
hex_from (Some value) (c ∷ rest) = if c == 125 then Some (value, rest) else hex_from (with_digit value (hex_digit c)) rest

-- CodePoint }: one digit or more
unfoldable pub code_point : Text → Option (ℕ × Text)
code_point text = if starts (λ c. c == 125) text then None else hex_from (Some 0) text

-- \u Hex4Digits with the second half of a surrogate pair
unfoldable pub second_half : Text → Option (ℕ × Text)
second_half text = option_and_then (λ p. if is_between 0xDC00 0xDFFF p.0 then Some p else None) (option_and_then hex_four (option_and_then (after 117) (after 92 text)))

-- the character that two halves make (11.1.3, UTF16SurrogatePairToCodePoint)
abbrev pub of_halves : ℕ → ℕ → ℕ
of_halves a b = (a - 0xD800) * 0x400 + (b - 0xDC00) + 0x1_0000

-- the first half of a pair with the second one, or a number alone
abbrev pub joined : ℕ → Text → Option (ℕ × Text) → ℕ × Text
joined a rest None = (a, rest)
joined a rest (Some p) = (of_halves a p.0, p.1)

-- Hex4Digits, or two of them for a surrogate pair
unfoldable pub unit : Text → Option (ℕ × Text)
unit text = option_map (λ p. if is_between 0xD800 0xDBFF p.0 then joined p.0 p.1 (second_half p.1) else p) (hex_four text)

-- RegExpUnicodeEscapeSequence after its \u; braces are read where they are allowed
unfoldable pub unicode_escape : Bool → Text → Option (ℕ × Text)
unicode_escape braces [] = None
unicode_escape braces (c ∷ rest) = if braces && (c == 123) then code_point rest else unit (c ∷ rest)

-- a number is clamped at 2^32 - 1
abbrev pub clamped : ℕ → ℕ
clamped n = min n 4294967295

-- DecimalDigits
abbrev pub digits : ℕ → Text → ℕ × Text
digits value [] = (value, [])
digits value (c ∷ rest) = if is_digit c then digits (clamped (clamped (value * 10) + (c - 48))) rest else (value, c ∷ rest)

-- one digit or more
unfoldable pub number : Text → Option (ℕ × Text)
number text = if starts is_digit text then Some (digits 0 text) else None

-- the octal digit that a text begins with
abbrev pub more_octal : Bool → ℕ → Text → ℕ × Text
more_octal may value [] = (value, [])
more_octal may value (c ∷ rest) = if may && is_octal c then (8 * value + (c - 48), rest) else (value, c ∷ rest)

-- LegacyOctalEscapeSequence (B.1.2) after its first digit: up to three digits, and up to 0o377
unfoldable pub octal : ℕ → Text → ℕ × Text
octal first text = let two = more_octal true first text in
    if starts is_octal text then more_octal (nat_le first 3) two.0 two.1 else two

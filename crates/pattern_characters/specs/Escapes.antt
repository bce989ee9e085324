-- What an escape stands for, after its backslash (22.2.1 and B.1.2, CharacterEscape and CharacterClassEscape).
use Rattle.std.specs.Prelude.{ℕ, ◌-◌, ◌%◌, Bool, true, false, not, ◌&&◌, ◌||◌, ◌==◌, [], ◌∷◌, Option, Some, None, if◌then◌else◌, Result, Ok, Err}
use Rattle.std.specs.List.{list_any}
use Rattle.pattern_characters.specs.Characters.{Text, seen, is_digit, is_octal, is_letter, starts, hex_pair, unicode_escape, octal}
use Rattle.pattern_characters.specs.Properties.{property}
use Rattle.pattern_characters.specs.declared.faults.Fault.{Fault}
use Rattle.pattern_characters.specs.declared.faults.Fault.TheVariants.{BadEscape}
use Rattle.pattern_characters.specs.declared.parts.Grammar.{Grammar}
use Rattle.pattern_characters.specs.declared.parts.Letter.TheVariants.{Digits, Spaces, Words}
use Rattle.pattern_characters.specs.declared.parts.Member.{Member}
use Rattle.pattern_characters.specs.declared.parts.Member.TheVariants.{One, Of, With}

-- ControlEscape: f n r t v
abbrev pub control : ℕ → Option ℕ
control c =
    if c == 102 then Some 12 else if c == 110 then Some 10 else if c == 114 then Some 13
    else if c == 116 then Some 9 else if c == 118 then Some 11 else None

-- SyntaxCharacter or /
abbrev pub is_syntax : ℕ → Bool
is_syntax c = list_any (λ d. d == c) (36 ∷ 40 ∷ 41 ∷ 42 ∷ 43 ∷ 46 ∷ 47 ∷ 63 ∷ 91 ∷ 92 ∷ 93 ∷ 94 ∷ 123 ∷ 124 ∷ 125 ∷ [])

-- after \c, a letter, or in a class of the older grammar a digit or _
abbrev pub is_control_letter : Grammar → Bool → ℕ → Bool
is_control_letter g in_class c = is_letter c || (not g.strict && in_class && (is_digit c || (c == 95)))

-- after \c; in the older grammar a \c that is none stands for its backslash alone
abbrev pub control_letter : Grammar → Bool → Text → Result (ℕ × Text) Fault
control_letter g in_class [] = if g.strict then Err BadEscape else Ok (92, 99 ∷ [])
control_letter g in_class (c ∷ rest) =
    if is_control_letter g in_class c then Ok (c % 32, rest) else if g.strict then Err BadEscape else Ok (92, 99 ∷ c ∷ rest)

-- a digit: \0, or in the older grammar a number in octal digits, or the digit itself
abbrev pub of_digit : Grammar → ℕ → Text → Result (ℕ × Text) Fault
of_digit g c rest =
    if g.strict then (if (c == 48) && not (starts is_digit rest) then Ok (0, rest) else Err BadEscape)
    else Ok (if is_octal c then octal (c - 48) rest else (c, rest))

-- what the letter before stands for with digits after it, or in the older grammar the letter itself
abbrev pub or_itself : Grammar → ℕ → Text → Option (ℕ × Text) → Result (ℕ × Text) Fault
or_itself g c rest None = if g.strict then Err BadEscape else Ok (c, rest)
or_itself g c rest (Some p) = Ok p

-- IdentityEscape: with the flag u a SyntaxCharacter or /; in the older grammar any character but c, and but k where a group has a name
abbrev pub identity : Grammar → ℕ → Text → Result (ℕ × Text) Fault
identity g c rest = if (if g.strict then is_syntax c else not ((c == 107) && g.named)) then Ok (c, rest) else Err BadEscape

-- b and - in a class
abbrev pub in_class_escape : Grammar → Bool → ℕ → Option ℕ
in_class_escape g in_class c =
    if not in_class then None else if c == 98 then Some 8 else if g.strict && (c == 45) then Some 45 else None

-- an escape that begins with a letter or a digit of its own
abbrev pub of_letter : Grammar → Bool → ℕ → Text → Result (ℕ × Text) Fault
of_letter g in_class c rest =
    if c == 99 then control_letter g in_class rest
    else if is_digit c then of_digit g c rest
    else if c == 120 then or_itself g c rest (hex_pair rest)
    else if c == 117 then or_itself g c rest (unicode_escape (g.strict || g.extended) rest)
    else identity g c rest

abbrev pub or_letter : Grammar → Bool → ℕ → Text → Option ℕ → Result (ℕ × Text) Fault
or_letter g in_class c rest None = of_letter g in_class c rest
or_letter g in_class c rest (Some v) = Ok (v, rest)

abbrev pub first_of : Option ℕ → Option ℕ → Option ℕ
first_of None b = b
first_of (Some a) b = Some a

-- CharacterEscape, and the further ones of a class
unfoldable pub character : Grammar → Bool → Text → Result (ℕ × Text) Fault
character g in_class [] = Err BadEscape
character g in_class (c ∷ rest) = or_letter g in_class c rest (first_of (control c) (in_class_escape g in_class c))

-- d D s S w W
abbrev pub letter_member : ℕ → Option Member
letter_member c =
    if c == 100 then Some (Of Digits false) else if c == 68 then Some (Of Digits true)
    else if c == 115 then Some (Of Spaces false) else if c == 83 then Some (Of Spaces true)
    else if c == 119 then Some (Of Words false) else if c == 87 then Some (Of Words true) else None

-- the members by an escape that is no letter's
abbrev pub of_property : Grammar → Bool → ℕ → Text → Result (Member × Text) Fault
of_property g in_class c rest =
    if (g.strict || g.extended) && ((c == 112) || (c == 80))
    then seen (λ p. (With p.0 (c == 80), p.1)) (property g.extended rest)
    else seen (λ p. (One p.0, p.1)) (character g in_class (c ∷ rest))

abbrev pub or_property : Grammar → Bool → ℕ → Text → Option Member → Result (Member × Text) Fault
or_property g in_class c rest None = of_property g in_class c rest
or_property g in_class c rest (Some m) = Ok (m, rest)

-- CharacterClassEscape or CharacterEscape
unfoldable pub member : Grammar → Bool → Text → Result (Member × Text) Fault
member g in_class [] = Err BadEscape
member g in_class (c ∷ rest) = or_property g in_class c rest (letter_member c)

-- What begins a group, after its opening bracket (22.2.1, Atom and Assertion).
use Rattle.std.specs.Prelude.{ℕ, Bool, true, false, not, ◌&&◌, ◌||◌, ◌==◌, [], ◌∷◌, Option, Some, None, if◌then◌else◌, Result, Ok, Err}
use Rattle.std.specs.List.{list_any}
use Rattle.pattern_characters.specs.Characters.{Text, ◌>>=◌, or_fault, seen, is_digit, is_letter, starts, after}
use Rattle.pattern_characters.specs.Names.{name}
use Rattle.pattern_characters.specs.declared.faults.Fault.{Fault}
use Rattle.pattern_characters.specs.declared.faults.Fault.TheVariants.{BadOpening, OtherOpening, BadName, BadFlags, OtherFlags}
use Rattle.pattern_characters.specs.declared.parts.Flags.{Flags}
use Rattle.pattern_characters.specs.declared.parts.Grammar.{Grammar}
use Rattle.pattern_reader.specs.declared.parts.Opening.{Opening}
use Rattle.pattern_reader.specs.declared.parts.Opening.TheVariants.{Capture, Plain, Around, Inline}

abbrev pub no_flags : Flags
no_flags = record { ignore_case = false; dot_all = false; multiline = false }

abbrev pub are_none : Flags → Bool
are_none f = not (f.ignore_case || f.dot_all || f.multiline)

-- one of i, s and m, which may come once
abbrev pub with_flag : Flags → ℕ → Result (Option Flags) Fault
with_flag f c =
    if c == 105 then (if f.ignore_case then Err BadFlags else Ok (Some (record f { ignore_case = true })))
    else if c == 115 then (if f.dot_all then Err BadFlags else Ok (Some (record f { dot_all = true })))
    else if c == 109 then (if f.multiline then Err BadFlags else Ok (Some (record f { multiline = true })))
    else if is_letter c then Err OtherFlags
    else Ok None

abbrev pub or_end : (Flags → Result (Flags × Text) Fault) → Flags → Text → Result (Option Flags) Fault → Result (Flags × Text) Fault
or_end more f text (Err e) = Err e
or_end more f text (Ok None) = Ok (f, text)
or_end more f text (Ok (Some further)) = more further

-- RegularExpressionModifiers
unfoldable pub modifiers : Flags → Text → Result (Flags × Text) Fault
modifiers f [] = Ok (f, [])
modifiers f (c ∷ rest) = or_end (λ further. modifiers further rest) f (c ∷ rest) (with_flag f c)

-- a flag before, with one to set and one to clear
abbrev pub changed : Bool → Bool → Bool → Bool
changed old on off = (old || on) && not off

-- the flags before, with some set and some cleared (22.2.2.7.2, UpdateModifiers)
abbrev pub updated : Flags → Flags → Flags → Flags
updated f on off = record {
  ignore_case = changed f.ignore_case on.ignore_case off.ignore_case;
  dot_all = changed f.dot_all on.dot_all off.dot_all;
  multiline = changed f.multiline on.multiline off.multiline;
}

-- a flag is both set and cleared
abbrev pub meet : Flags → Flags → Bool
meet on off = (on.ignore_case && off.ignore_case) || (on.dot_all && off.dot_all) || (on.multiline && off.multiline)

-- after all flags: a colon and then the body, or (as other engines have it) the closing bracket
abbrev pub body_or_none : Grammar → Flags → Text → Result (Opening × Text) Fault
body_or_none g f [] = Err BadOpening
body_or_none g f (c ∷ rest) =
    if c == 58 then Ok (Plain f, rest) else if g.extended && (c == 41) then Ok (Inline f, rest) else Err BadOpening

-- the flags to clear, after the hyphen
unfoldable pub cleared : Grammar → Flags → Flags → Text → Result (Opening × Text) Fault
cleared g f on text = do
  off ← modifiers no_flags text
  o ← body_or_none g (updated f on off.0) off.1
  if (are_none on && are_none off.0) || meet on off.0 then Err BadFlags else Ok o

-- after the flags to set; (?) has none
abbrev pub after_set : Grammar → Flags → Flags → Text → Result (Opening × Text) Fault
after_set g f on [] = Err BadOpening
after_set g f on (c ∷ rest) =
    if c == 45 then cleared g f on rest
    else if (c == 41) && are_none on then Err BadOpening
    else body_or_none g (updated f on no_flags) (c ∷ rest)

-- ?: and ?i: and their like
unfoldable pub flagged : Grammar → Flags → Text → Result (Opening × Text) Fault
flagged g f text = do
  on ← modifiers no_flags text
  after_set g f on.0 on.1

abbrev pub look : Bool → Bool → Opening
look ahead wanted = Around (record { ahead = ahead; wanted = wanted })

-- GroupName
unfoldable pub of_name : Text → Result (Opening × Text) Fault
of_name text = seen (λ p. (Capture, p.1)) (or_fault BadName (name text))

-- ?<= and ?<! begin a lookbehind, any other ?< a name
abbrev pub after_angle : Text → Result (Opening × Text) Fault
after_angle [] = Err BadName
after_angle (c ∷ rest) =
    if c == 61 then Ok (look false true, rest) else if c == 33 then Ok (look false false, rest) else of_name (c ∷ rest)

-- after ?P: < begins a name, as other engines have it, and with = or > it is a back reference or a call of theirs
abbrev pub p_fault : Text → Fault
p_fault text = if starts (λ c. (c == 61) || (c == 62)) text then OtherOpening else BadOpening

abbrev pub after_p : Text → Result (Opening × Text) Fault
after_p text = do
  rest ← or_fault (p_fault text) (after 60 text)
  of_name rest

-- what begins a group in other engines alone: (?# (?& (?' (?( (?* (?+ (?> (?? (?^ (?{ (?| and (?1
abbrev pub is_other : ℕ → Bool
is_other c = is_digit c || list_any (λ d. d == c) (35 ∷ 38 ∷ 39 ∷ 40 ∷ 42 ∷ 43 ∷ 62 ∷ 63 ∷ 94 ∷ 123 ∷ 124 ∷ [])

-- after (?
abbrev pub after_mark : Grammar → Flags → Text → Result (Opening × Text) Fault
after_mark g f [] = Err BadOpening
after_mark g f (c ∷ rest) =
    if c == 61 then Ok (look true true, rest)
    else if c == 33 then Ok (look true false, rest)
    else if c == 60 then after_angle rest
    else if g.extended && (c == 80) then after_p rest
    else if is_other c then Err OtherOpening
    else flagged g f (c ∷ rest)

unfoldable pub opening : Grammar → Flags → Text → Result (Opening × Text) Fault
opening g f [] = Ok (Capture, [])
opening g f (c ∷ rest) = if c == 63 then after_mark g f rest else Ok (Capture, c ∷ rest)

-- Classes (22.2.1 and B.1.2, CharacterClass), after their opening bracket.
use Rattle.std.specs.Prelude.{Bool, true, false, not, ◌&&◌, ◌==◌, nat_le, [], ◌∷◌, Option, Some, None, if◌then◌else◌, Result, Ok, Err}
use Rattle.pattern_characters.specs.Characters.{Text, ◌>>=◌, is_between, starts}
use Rattle.pattern_characters.specs.Escapes.{member}
use Rattle.pattern_characters.specs.Sets.{Spans, has_member, with_more, others, folded}
use Rattle.pattern_characters.specs.declared.faults.Fault.{Fault}
use Rattle.pattern_characters.specs.declared.faults.Fault.TheVariants.{OpenClass, SetInRange, RangeOutOfOrder}
use Rattle.pattern_characters.specs.declared.parts.Flags.{Flags}
use Rattle.pattern_characters.specs.declared.parts.Grammar.{Grammar}
use Rattle.pattern_characters.specs.declared.parts.Member.{Member}
use Rattle.pattern_characters.specs.declared.parts.Member.TheVariants.{One}

-- ClassAtom: a character or an escape
unfoldable pub class_atom : Grammar → Text → Result (Member × Text) Fault
class_atom g [] = Err OpenClass
class_atom g (c ∷ rest) = if c == 92 then member g true rest else Ok (One c, rest)

-- the text after a hyphen between two atoms; one before the closing bracket stands for itself
abbrev pub after_hyphen : Text → Option Text
after_hyphen [] = None
after_hyphen (c ∷ rest) = if (c == 45) && not (starts (λ d. d == 93) rest) then Some rest else None

abbrev pub with_member : Bool → Spans → Member → Spans
with_member i spans m = with_more spans (has_member i m)

-- a range; in the older grammar a set at one of its ends makes three parts of it: both ends and the hyphen
unfoldable pub with_range : Grammar → Bool → Spans → Member → Member → Result Spans Fault
with_range g i spans (One a) (One b) = if nat_le a b then Ok (with_more spans (is_between a b)) else Err RangeOutOfOrder
with_range g i spans a b =
    if g.strict then Err SetInRange else Ok (with_member i (with_member i (with_member i spans a) b) (One 45))

-- a part of a class after its first atom
unfoldable pub with_part : Grammar → Bool → Spans → Member → Text → Option Text → Result (Spans × Text) Fault
with_part g i spans a rest None = Ok (with_member i spans a, rest)
with_part g i spans a rest (Some after) = do
  b ← class_atom g after
  both ← with_range g i spans a b.0
  Ok (both, b.1)

unfoldable pub class_part : Grammar → Bool → Spans → Text → Result (Spans × Text) Fault
class_part g i spans text = do
  a ← class_atom g text
  with_part g i spans a.0 a.1 (after_hyphen a.1)

-- the parts up to the closing bracket, at most so many as there are steps
unfoldable pub parts_from : Text → Grammar → Bool → Spans → Text → Result (Spans × Text) Fault
parts_from [] g i spans text = Err OpenClass
parts_from (step ∷ steps) g i spans [] = Err OpenClass
parts_from (step ∷ steps) g i spans (c ∷ rest) =
    if c == 93 then Ok (spans, rest) else class_part g i spans (c ∷ rest) >>= λ p. parts_from steps g i p.0 p.1

-- the set of a class, and of one with ^ (22.2.2.7.1: the flag i goes before)
abbrev pub class_spans : Bool → Bool → Spans → Spans
class_spans negated i spans = if negated then others (folded i spans) else folded i spans

unfoldable pub class_from : Bool → Grammar → Flags → Text → Result (Spans × Text) Fault
class_from negated g flags text = do
  p ← parts_from text g flags.ignore_case [] text
  Ok (class_spans negated flags.ignore_case p.0, p.1)

unfoldable pub class : Grammar → Flags → Text → Result (Spans × Text) Fault
class g flags [] = Err OpenClass
class g flags (c ∷ rest) = if c == 94 then class_from true g flags rest else class_from false g flags (c ∷ rest)

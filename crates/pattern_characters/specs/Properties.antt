-- \p{..} (22.2.1, CharacterClassEscape), with the names of properties compared loosely.
use Rattle.std.specs.Prelude.{ℕ, Bool, ◌&&◌, ◌||◌, ◌==◌, ◌+◌, [], ◌∷◌, Option, Some, None, option_map, position, take, drop, if◌then◌else◌, Result, Ok}
use Rattle.std.specs.List.{list_all}
use Rattle.unicode.specs.Lookup.{by_name, by_value}
use Rattle.unicode.specs.Loose.{normalize}
use Rattle.ucd_sets.specs.declared.set.Set.{Set}
use Rattle.pattern_characters.specs.Characters.{Text, ◌>>=◌, or_fault, is_letter, is_digit}
use Rattle.pattern_characters.specs.declared.faults.Fault.{Fault}
use Rattle.pattern_characters.specs.declared.faults.Fault.TheVariants.{UnknownProperty}

-- the texts before and after the first mark
abbrev pub cut : ℕ → Text → Option (Text × Text)
cut mark text = option_map (λ n. (take n text, drop (n + 1) text)) (position (λ c. c == mark) text)

-- UnicodePropertyValueCharacter
abbrev pub is_name_char : ℕ → Bool
is_name_char c = is_letter c || is_digit c || (c == 95)

abbrev pub are_name_chars : Text → Bool
are_name_chars name = list_all is_name_char name

-- a name, or a name and a value
abbrev pub set_of : Text → Option (Text × Text) → Option Set
set_of name None = if are_name_chars name then by_name (normalize name) else None
set_of name (Some p) =
    if are_name_chars p.0 && are_name_chars p.1 then by_value (normalize p.0) (normalize p.1) else None

-- UnicodePropertyValueExpression
unfoldable pub set_named : Text → Option Set
set_named name = set_of name (cut 61 name)

-- the braces with their name, or where other engines' spellings are read one letter
abbrev pub name_in : Bool → Text → Option (Text × Text)
name_in extended [] = None
name_in extended (c ∷ rest) = if c == 123 then cut 125 rest else if extended then Some (c ∷ [], rest) else None

unfoldable pub property : Bool → Text → Result (Set × Text) Fault
property extended text = do
  p ← or_fault UnknownProperty (name_in extended text)
  set ← or_fault UnknownProperty (set_named p.0)
  Ok (set, p.1)

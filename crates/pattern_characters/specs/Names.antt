-- The names of groups.
use Rattle.std.specs.Prelude.{ℕ, Bool, true, ◌&&◌, ◌||◌, ◌==◌, [], ◌∷◌, ◌++◌, length, Option, Some, None, option_and_then, if◌then◌else◌}
use Rattle.unicode.specs.Binary.{is_id_start, is_id_continue}
use Rattle.pattern_characters.specs.Characters.{Text, is_between, after, unicode_escape}

-- a character, and not a surrogate or a number past the last one
abbrev pub is_scalar : ℕ → Bool
is_scalar c = is_between 0 0xD7FF c || is_between 0xE000 0x10_FFFF c

-- IdentifierStartChar: a character of ID_Start, $ or _
abbrev pub is_name_start : ℕ → Bool
is_name_start c = (is_scalar c && is_id_start c) || (c == 36) || (c == 95)

-- IdentifierPartChar: a character of ID_Continue, $, or a joiner
abbrev pub is_name_part : ℕ → Bool
is_name_part c = (is_scalar c && is_id_continue c) || (c == 36) || (c == 0x200C) || (c == 0x200D)

abbrev pub is_name_char : Bool → ℕ → Bool
is_name_char first c = if first then is_name_start c else is_name_part c

-- one character of a name, as it stands or by an escape
unfoldable pub name_char : Text → Option (ℕ × Text)
name_char [] = None
name_char (c ∷ rest) = if c == 92 then option_and_then (unicode_escape true) (after 117 rest) else Some (c, rest)

-- the character, if a name may have it
abbrev pub allowed : Bool → Option (ℕ × Text) → Option (ℕ × Text)
allowed first None = None
allowed first (Some p) = if is_name_char first p.0 then Some p else None

-- the text after the `>` that ends a name, if it begins with it and there is a name
abbrev pub ended : Bool → Text → Option Text
ended first text = if first then None else after 62 text

-- the name so far, or with one more character and what follows it
abbrev pub or_more : (Text → Text → Option (Text × Text)) → Text → Option Text → Option (ℕ × Text) → Option (Text × Text)
or_more more so_far (Some rest) c = Some (so_far, rest)
or_more more so_far None None = None
or_more more so_far None (Some p) = more (so_far ++ p.0 ∷ []) p.1

-- the rest of a name up to its `>`, after the characters so far; at most so many more as there are steps
unfoldable pub name_from : Text → Text → Text → Option (Text × Text)
name_from [] so_far text = None
name_from (step ∷ steps) so_far text =
    or_more (λ further rest. name_from steps further rest) so_far (ended (length so_far == 0) text) (allowed (length so_far == 0) (name_char text))

-- RegExpIdentifierName >
unfoldable pub name : Text → Option (Text × Text)
name text = name_from text [] text

-- Pointers into JSON values. (RFC 6901, section 3; for relative ones, section 3 of the
-- Internet-Draft on relative JSON pointers, in the version that draft 7 cites)
use Rattle.std.specs.Prelude.{Bool, [], false, if◌then◌else◌, true, ◌&&◌, ◌==◌, ◌||◌, ◌∷◌}
use Rattle.text_formats.specs.Characters.{Text, is_digit}
use Rattle.text_formats.specs.Cutting.{is_empty, past_digits}

-- escaped = "~" ( "0" / "1" ): a tilde is followed by `0` or `1`
abbrev pub is_escaped : Text → Bool
is_escaped [] = true
is_escaped (c ∷ []) = if c == 126 then false else true
is_escaped (c ∷ d ∷ cs) = if c == 126 then ((d == 48) || (d == 49)) && is_escaped cs else is_escaped (d ∷ cs)

-- json-pointer = *( "/" *( unescaped / escaped ) )
abbrev pub is_pointer : Text → Bool
is_pointer [] = true
is_pointer (c ∷ cs) = (c == 47) && is_escaped cs

-- "#" / json-pointer
abbrev pub is_hash_or_pointer : Text → Bool
is_hash_or_pointer [] = true
is_hash_or_pointer (c ∷ cs) = if c == 35 then is_empty cs else is_pointer (c ∷ cs)

-- non-negative-integer ( "#" / json-pointer ), where non-negative-integer = "0" / %x31-39 *DIGIT
abbrev pub is_relative_pointer : Text → Bool
is_relative_pointer [] = false
is_relative_pointer (c ∷ cs) =
    if c == 48 then is_hash_or_pointer cs
    else is_digit c && is_hash_or_pointer (past_digits cs)

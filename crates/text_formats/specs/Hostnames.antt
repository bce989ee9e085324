-- Names of hosts: labels of letters, digits and hyphens. (RFC 1123, section 2.1; RFC 1034, sections
-- 3.1 and 3.5) If `wide` is true, a label may have characters outside ASCII too, as in the domain
-- of a mail address. (RFC 6531, section 3.3)
use Rattle.std.specs.Prelude.{Bool, false, length, nat_le, not, slice_index, ◌&&◌, ◌-◌, ◌==◌, ◌||◌, ℕ}
use Rattle.std.specs.List.{list_all, list_any}
use Rattle.text_formats.specs.Characters.{Text, is_digit, is_letter}
use Rattle.text_formats.specs.Cutting.{parts}

abbrev pub is_label_character : Bool → ℕ → Bool
is_label_character wide c = is_letter c || is_digit c || (c == 45) || (wide && nat_le 128 c)

-- at most 63 characters; a label with characters outside ASCII may have any length, since the limit
-- is one on its encoded form
abbrev pub is_short_label : Text → Bool
is_short_label t = nat_le (length t) 63 || list_any (λ c. nat_le 128 c) t

-- label = let-dig [ [ldh-str] let-dig ]
abbrev pub is_label : Bool → Text → Bool
is_label wide t = nat_le 1 (length t) && is_short_label t && list_all (is_label_character wide) t
    && not (slice_index t 0 == 45) && not (slice_index t (length t - 1) == 45)

-- label *("." label), at most 253 characters
abbrev pub is_hostname : Text → Bool
is_hostname t = nat_le (length t) 253 && list_all (is_label false) (parts 46 t)

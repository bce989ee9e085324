-- The contextual rules for the places of characters other than joiners in a label. (RFC 5892,
-- appendices A.3 to A.9)
use Rattle.std.specs.Prelude.{Bool, [], not, ◌&&◌, ◌==◌, ◌||◌, ◌∷◌, ℕ}
use Rattle.std.specs.List.{list_any}
use Rattle.theory_definitions.specs.Instance.{Text}
use Rattle.ucd_script.specs.Script.{script, script_eq}
use Rattle.ucd_script.specs.declared.Script.{Script}
use Rattle.ucd_script.specs.declared.Script.TheVariants.{Greek, Han, Hebrew, Hiragana, Katakana}
use Rattle.standard_formats.specs.IdnCharacters.{is_arabic_digit, is_extended_arabic_digit}

abbrev pub is_of : Script → ℕ → Bool
is_of s c = script_eq (script c) s

-- a middle dot has an `l` before it and an `l` after it (appendix A.3)
abbrev pub fits_middle_dot : ℕ → ℕ → Bool
fits_middle_dot before c = (not (c == 0xB7) || (before == 108)) && (not (before == 0xB7) || (c == 108))

-- a keraia has a Greek character after it (appendix A.4)
abbrev pub fits_keraia : ℕ → ℕ → Bool
fits_keraia before c = not (before == 0x375) || is_of Greek c

-- a geresh or gershayim has a Hebrew character before it (appendices A.5 and A.6)
abbrev pub fits_geresh : ℕ → ℕ → Bool
fits_geresh before c = not ((c == 0x5F3) || (c == 0x5F4)) || is_of Hebrew before

-- a character may follow another in a label; a full stop is what stands before and after it
abbrev pub may_follow : ℕ → ℕ → Bool
may_follow before c = fits_middle_dot before c && fits_keraia before c && fits_geresh before c

-- each character of the rest of a label, and the full stop after it, may follow the one before
abbrev pub follow : ℕ → Text → Bool
follow before [] = may_follow before 46
follow before (c ∷ cs) = may_follow before c && follow c cs

abbrev pub is_japanese : ℕ → Bool
is_japanese c = is_of Hiragana c || is_of Katakana c || is_of Han c

-- a label with a katakana middle dot has a character of Hiragana, Katakana or Han (appendix A.7)
abbrev pub fits_katakana_dot : Text → Bool
fits_katakana_dot t = not (list_any (λ c. c == 0x30FB) t) || list_any is_japanese t

-- a label has no digits of both kinds (appendices A.8 and A.9)
abbrev pub fits_digits : Text → Bool
fits_digits t = not (list_any is_arabic_digit t) || not (list_any is_extended_arabic_digit t)

abbrev pub fits_contexts : Text → Bool
fits_contexts t = follow 46 t && fits_katakana_dot t && fits_digits t

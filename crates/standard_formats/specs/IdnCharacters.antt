-- The characters that a label of an internationalized host name may have: those whose derived
-- property is PVALID, CONTEXTJ or CONTEXTO. (RFC 5892, sections 2 and 3) A character that
-- normalization and case folding change (section 2.2), or that is ignorable (section 2.3), is one
-- that UTS #46 maps, ignores or disallows.
use Rattle.std.specs.Prelude.{Bool, false, not, true, ◌&&◌, ◌==◌, ◌||◌, ℕ}
use Rattle.idna.specs.Validity.{is_valid_status}
use Rattle.text_formats.specs.Characters.{is_between}
use Rattle.ucd_category.specs.GeneralCategory.{general_category}
use Rattle.ucd_category.specs.declared.GeneralCategory.{GeneralCategory}
use Rattle.ucd_category.specs.declared.GeneralCategory.TheVariants.{DecimalNumber, LowercaseLetter, ModifierLetter, NonspacingMark, OtherLetter, SpacingMark, UppercaseLetter}
use Rattle.ucd_idna_map.specs.IdnaStatus.{idna_status}

-- LetterDigits (section 2.1)
abbrev pub is_letter_or_digit : GeneralCategory → Bool
is_letter_or_digit LowercaseLetter = true
is_letter_or_digit UppercaseLetter = true
is_letter_or_digit OtherLetter = true
is_letter_or_digit DecimalNumber = true
is_letter_or_digit ModifierLetter = true
is_letter_or_digit NonspacingMark = true
is_letter_or_digit SpacingMark = true
is_letter_or_digit _ = false

-- IgnorableBlocks (section 2.4): combining marks for symbols, musical symbols, and ancient Greek
-- musical notation
abbrev pub is_in_ignorable_block : ℕ → Bool
is_in_ignorable_block c = is_between 0x20D0 0x20FF c || is_between 0x1D100 0x1D1FF c || is_between 0x1D200 0x1D24F c

-- LDH (section 2.5)
abbrev pub is_ldh : ℕ → Bool
is_ldh c = (c == 45) || is_between 48 57 c || is_between 97 122 c

-- the Arabic-Indic digits and the extended ones, which have a contextual rule
abbrev pub is_arabic_digit : ℕ → Bool
is_arabic_digit c = is_between 0x660 0x669 c

abbrev pub is_extended_arabic_digit : ℕ → Bool
is_extended_arabic_digit c = is_between 0x6F0 0x6F9 c

-- Exceptions that are PVALID (section 2.6)
abbrev pub is_valid_exception : ℕ → Bool
is_valid_exception c = (c == 0xDF) || (c == 0x3C2) || is_between 0x6FD 0x6FE c || (c == 0xF0B) || (c == 0x3007)

-- Exceptions that are CONTEXTO (section 2.6)
abbrev pub is_contextual_exception : ℕ → Bool
is_contextual_exception c =
    (c == 0xB7) || (c == 0x375) || is_between 0x5F3 0x5F4 c || (c == 0x30FB) || is_arabic_digit c || is_extended_arabic_digit c

-- Exceptions that are DISALLOWED (section 2.6)
abbrev pub is_disallowed_exception : ℕ → Bool
is_disallowed_exception c = (c == 0x640) || (c == 0x7FA) || is_between 0x302E 0x302F c || is_between 0x3031 0x3035 c || (c == 0x303B)

-- JoinControl (section 2.8)
abbrev pub is_joiner : ℕ → Bool
is_joiner c = is_between 0x200C 0x200D c

-- OldHangulJamo (section 2.9)
abbrev pub is_old_jamo : ℕ → Bool
is_old_jamo c = is_between 0x1100 0x11FF c || is_between 0xA960 0xA97C c || is_between 0xD7B0 0xD7C6 c || is_between 0xD7CB 0xD7FB c

-- a letter or digit that no other category excludes
abbrev pub is_stable_letter : ℕ → Bool
is_stable_letter c =
    is_letter_or_digit (general_category c) && is_valid_status (idna_status c) && not (is_in_ignorable_block c) && not (is_old_jamo c)

-- the categories in the order of section 3
abbrev pub is_permitted : ℕ → Bool
is_permitted c =
    is_valid_exception c || is_contextual_exception c
    || (not (is_disallowed_exception c) && (is_ldh c || is_joiner c || is_stable_letter c))

-- Internationalized host names: labels in ASCII, and U-labels. (RFC 5890, section 2.3.2.3; RFC
-- 5891, section 4.2) A name is in Normalization Form C. ToASCII succeeds of it with the flags
-- CheckHyphens, CheckBidi, CheckJoiners, UseSTD3ASCIIRules and VerifyDnsLength (UTS #46, section
-- 4.2), which also maps capital letters of labels in ASCII. Each label consists of the characters
-- that RFC 5892 permits and obeys its contextual rules; so does a label that an `xn--` label
-- stands for. The labels are divided by full stops, or by one of the three characters that RFC
-- 3490, section 3.1, takes for them.
use Rattle.std.specs.Prelude.{Bool, List, None, Option, Some, false, is_some, ◌&&◌, ◌==◌, ◌||◌, ℕ}
use Rattle.std.specs.Char.{is_ascii}
use Rattle.std.specs.List.{list_all, slice_split}
use Rattle.std.specs.Str.{chars}
use Rattle.idna.specs.Uts46.{to_ascii, to_unicode}
use Rattle.idna.specs.declared.deny_list.TheConstants.AsciiDenyList.{STD3}
use Rattle.idna.specs.declared.options.DnsLength.TheVariants.{Verify}
use Rattle.idna.specs.declared.options.Hyphens.TheVariants.{Check}
use Rattle.unicode_normalization.specs.Forms.{is_nfc}
use Rattle.theory_definitions.specs.Instance.{Text}
use Rattle.standard_formats.specs.IdnCharacters.{is_permitted}
use Rattle.standard_formats.specs.IdnContexts.{fits_contexts}

-- a full stop, or U+3002, U+FF0E or U+FF61
abbrev pub is_separator : ℕ → Bool
is_separator c = (c == 0x2E) || (c == 0x3002) || (c == 0xFF0E) || (c == 0xFF61)

abbrev pub labels : Text → List Text
labels t = slice_split is_separator t

-- a label as it is written: in ASCII, or of permitted characters
abbrev pub is_written : Text → Bool
is_written t = list_all is_ascii t || list_all is_permitted t

-- a label in Unicode: of permitted characters in their places
abbrev pub is_placed : Text → Bool
is_placed t = list_all is_permitted t && fits_contexts t

-- there is such a name, and its labels are as above
abbrev pub is_placed_name : Option Text → Bool
is_placed_name None = false
is_placed_name (Some t) = list_all is_placed (labels (chars t))

-- as ToUnicode gives it, where an `xn--` label is decoded (UTS #46, section 4.3)
abbrev pub is_placed_in_unicode : Text → Bool
is_placed_in_unicode t = is_placed_name (to_unicode STD3 Check t)

abbrev pub is_written_name : Text → Bool
is_written_name t = is_nfc (chars t) && list_all is_written (labels (chars t))

abbrev pub is_idn_hostname : Text → Bool
is_idn_hostname t = is_written_name t && is_some (to_ascii STD3 Check Verify t) && is_placed_in_unicode t

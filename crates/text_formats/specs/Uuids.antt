-- Universally unique identifiers: 32 hex digits in five groups. (RFC 4122, section 3)
use Rattle.std.specs.Prelude.{Bool, codes}
use Rattle.text_formats.specs.Characters.{Text, fits}

-- UUID = 8HEXDIG "-" 4HEXDIG "-" 4HEXDIG "-" 4HEXDIG "-" 12HEXDIG
abbrev pub is_uuid : Text → Bool
is_uuid t = fits (codes "xxxxxxxx-xxxx-xxxx-xxxx-xxxxxxxxxxxx") t

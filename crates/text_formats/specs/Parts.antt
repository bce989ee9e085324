-- What each part of a text between marks may be.
use Rattle.std.specs.Prelude.{Bool}
use Rattle.text_formats.specs.Addresses.{is_snum}
use Rattle.text_formats.specs.Characters.{Text}
use Rattle.text_formats.specs.Emails.{is_atom}
use Rattle.text_formats.specs.Hostnames.{is_label}
use Rattle.text_formats.specs.Templates.{is_variable}
use Rattle.text_formats.specs.declared.parts.Part.{Part}
use Rattle.text_formats.specs.declared.parts.Part.TheVariants.{Atom, Label, Snum, Variable}

abbrev pub is_part : Part → Text → Bool
is_part (Atom wide) t = is_atom wide t
is_part (Label wide) t = is_label wide t
is_part Snum t = is_snum t
is_part Variable t = is_variable t

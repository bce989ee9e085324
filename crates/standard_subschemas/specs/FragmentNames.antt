-- Names in fragments. By the standard's rule a name in the fragment of a reference or an identifier
-- is percent-decoded, so that `#f%6Fo` means the name `foo`; an `$anchor` is no part of a URI, and is
-- read as it is written. By the narrow rule a fragment is read as it is written. (RFC 3986, sections
-- 2.1 and 6.2.2.2; Core 2020-12, section 8.2.2)
use Rattle.std.specs.Prelude.{Option, if◌then◌else◌, option_map}
use Rattle.std.specs.Str.Lossy.{utf8_lossy}
use Rattle.percent_encoding.specs.Percent.{percent_decode}
use Rattle.serde_json.specs.Data.{Data}
use Rattle.theory_definitions.specs.Instance.{Text}
use Rattle.theory_definitions.specs.Drafts.{Draft, ref_stands_alone}
use Rattle.standard_subschemas.specs.declared.rules.Rule.{Rule}
use Rattle.standard_subschemas.specs.declared.rules.Rule.TheVariants.{Narrow, Standard}
use Rattle.standard_subschemas.specs.SubschemaRules.{plain_name}

-- the name that a fragment means
abbrev pub name_in_fragment : Rule → Text → Text
name_in_fragment Narrow t = t
name_in_fragment Standard t = utf8_lossy (percent_decode t)

-- in drafts 4 to 7 a name is a fragment
abbrev pub name_read : Rule → Draft → Text → Text
name_read rule d t = if ref_stands_alone d then name_in_fragment rule t else t

-- the name of a schema, if it has one
abbrev pub schema_name : Rule → Draft → Data → Option Text
schema_name rule d v = option_map (name_read rule d) (plain_name rule d v)

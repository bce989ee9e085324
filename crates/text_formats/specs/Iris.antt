-- Internationalized resource identifiers and references to them: like URIs, but with characters
-- outside ASCII. (RFC 3987, section 2.2)
use Rattle.std.specs.Prelude.{Bool, None, Option, Some, is_some, nat_le, true, ◌%◌, ◌&&◌, ◌||◌, ℕ}
use Rattle.std.specs.List.{list_all}
use Rattle.std.specs.Str.{chars}
use Rattle.uri_references.specs.Components.{Components, components}
use Rattle.text_formats.specs.Characters.{Text, is_between}
use Rattle.text_formats.specs.Uris.{fit}

-- ucschar: three ranges of plane 0; of planes 1 to 14, all code points but the last two of each
-- plane, and of plane 14 only those from U+E1000 on
abbrev pub is_universal : ℕ → Bool
is_universal c =
    is_between 0xA0 0xD7FF c || is_between 0xF900 0xFDCF c || is_between 0xFDF0 0xFFEF c
    || (is_between 0x10000 0xEFFFD c && nat_le (c % 0x10000) 0xFFFD && (nat_le c 0xDFFFF || nat_le 0xE1000 c))

-- iprivate, which a query may have
abbrev pub is_private : ℕ → Bool
is_private c = is_between 0xE000 0xF8FF c || is_between 0xF0000 0xFFFFD c || is_between 0x100000 0x10FFFD c

-- a character of a component; the ASCII characters are those of URIs
abbrev pub is_universal_or_ascii : ℕ → Bool
is_universal_or_ascii c = nat_le c 127 || is_universal c

-- a character of a query, where iprivate is allowed too
abbrev pub is_of_query : ℕ → Bool
is_of_query c = is_universal_or_ascii c || is_private c

abbrev pub universal_fits : Option Text → Bool
universal_fits None = true
universal_fits (Some t) = list_all is_universal_or_ascii (chars t)

abbrev pub query_fits : Option Text → Bool
query_fits None = true
query_fits (Some t) = list_all is_of_query (chars t)

abbrev pub characters_fit : Components → Bool
characters_fit c =
    universal_fits c.authority && list_all is_universal_or_ascii (chars c.path) && query_fits c.query && universal_fits c.fragment

-- IRI-reference = IRI / irelative-ref
abbrev pub is_iri_reference : Text → Bool
is_iri_reference t = fit true (components t) && characters_fit (components t)

-- IRI = scheme ":" ihier-part [ "?" iquery ] [ "#" ifragment ]
abbrev pub is_iri : Text → Bool
is_iri t = is_some (components t).scheme && is_iri_reference t

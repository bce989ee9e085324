-- Uniform resource identifiers and references to them: URI, URI-reference. Their components are
-- those of `uri_references`; each consists of characters of a class of its own and of
-- percent-encoded octets. (RFC 3986, sections 2.1 to 2.3, 3 and 4.1) If `wide` is true, characters
-- outside ASCII are allowed too. (RFC 3987, section 2.2)
use Rattle.std.specs.Prelude.{Bool, None, Option, Some, [], codes, false, if◌then◌else◌, is_some, nat_le, not, true, ◌&&◌, ◌==◌, ◌||◌, ◌∷◌, ℕ}
use Rattle.std.specs.List.{list_all, list_any}
use Rattle.uri_references.specs.Components.{Components, components}
use Rattle.text_formats.specs.Addresses.{is_ipv6}
use Rattle.text_formats.specs.Characters.{Text, is_between, is_digit, is_hex_digit, is_letter}
use Rattle.text_formats.specs.Cutting.{cut, is_empty}
use Rattle.text_formats.specs.declared.uris.Class.{Class}
use Rattle.text_formats.specs.declared.uris.Class.TheVariants.{Fragment, Literal, Name, Path, User, Variable}

-- unreserved = ALPHA / DIGIT / "-" / "." / "_" / "~"
abbrev pub is_unreserved : ℕ → Bool
is_unreserved c = is_letter c || is_digit c || list_any (λ m. m == c) (codes "-._~")

abbrev pub is_sub_delim : ℕ → Bool
is_sub_delim c = list_any (λ m. m == c) (codes "!$&'()*+,;=")

-- the characters that every component may have
abbrev pub is_common : ℕ → Bool
is_common c = is_unreserved c || is_sub_delim c

-- an ASCII character that stands for itself in a template (RFC 6570, section 2.1)
abbrev pub is_literal : ℕ → Bool
is_literal c =
    (c == 0x21) || is_between 0x23 0x24 c || (c == 0x26) || is_between 0x28 0x3B c || (c == 0x3D) || is_between 0x3F 0x5B c
    || (c == 0x5D) || (c == 0x5F) || is_between 0x61 0x7A c || (c == 0x7E)

-- a character of a variable's name, percent-encoded octets aside, or the dot between two of them
-- (RFC 6570, section 2.3)
abbrev pub is_of_variable : ℕ → Bool
is_of_variable c = is_letter c || is_digit c || (c == 95) || (c == 46)

-- the ASCII characters of a class: in addition to the common ones, pchar has ":" and "@", a path
-- has "/", and a query and a fragment have "/" and "?"
abbrev pub is_ascii_of : Class → ℕ → Bool
is_ascii_of Name c = is_common c
is_ascii_of User c = is_common c || (c == 58)
is_ascii_of Path c = is_common c || list_any (λ m. m == c) (codes ":@/")
is_ascii_of Fragment c = is_common c || list_any (λ m. m == c) (codes ":@/?")
is_ascii_of Literal c = is_literal c
is_ascii_of Variable c = is_of_variable c

-- a character of a class, or one outside ASCII if `wide` is true
abbrev pub is_of : Bool → Class → ℕ → Bool
is_of wide k c = is_ascii_of k c || (wide && nat_le 128 c)

-- *( a character of the class / pct-encoded ), where pct-encoded = "%" HEXDIG HEXDIG
abbrev pub is_made : Bool → Class → Text → Bool
is_made wide k [] = true
is_made wide k (c ∷ []) = is_of wide k c
is_made wide k (c ∷ d ∷ []) = is_of wide k c && is_of wide k d
is_made wide k (c ∷ d ∷ e ∷ cs) =
    if c == 37 then is_hex_digit d && is_hex_digit e && is_made wide k cs
    else is_of wide k c && is_made wide k (d ∷ e ∷ cs)

-- scheme = ALPHA *( ALPHA / DIGIT / "+" / "-" / "." )
abbrev pub is_scheme_character : ℕ → Bool
is_scheme_character c = is_letter c || is_digit c || list_any (λ m. m == c) (codes "+-.")

abbrev pub is_scheme : Text → Bool
is_scheme [] = false
is_scheme (c ∷ cs) = is_letter c && list_all is_scheme_character cs

-- [ ":" port ], where port = *DIGIT
abbrev pub is_port_end : Text → Bool
is_port_end [] = true
is_port_end (c ∷ cs) = (c == 58) && list_all is_digit cs

-- IPvFuture = "v" 1*HEXDIG "." 1*( unreserved / sub-delims / ":" )
abbrev pub is_future_character : ℕ → Bool
is_future_character c = is_unreserved c || is_sub_delim c || (c == 58)

abbrev pub is_future_after : Option (Text × Text) → Bool
is_future_after None = false
is_future_after (Some p) = not (is_empty p.0) && list_all is_hex_digit p.0 && not (is_empty p.1) && list_all is_future_character p.1

abbrev pub is_future : Text → Bool
is_future [] = false
is_future (c ∷ cs) = ((c == 118) || (c == 86)) && is_future_after (cut 46 cs)

-- IP-literal [ ":" port ], after the bracket that begins IP-literal = "[" ( IPv6address / IPvFuture ) "]"
abbrev pub is_bracketed : Option (Text × Text) → Bool
is_bracketed None = false
is_bracketed (Some p) = (is_ipv6 p.0 || is_future p.0) && is_port_end p.1

-- reg-name [ ":" port ]; an IPv4 address is also a reg-name
abbrev pub is_named : Bool → Text → Option (Text × Text) → Bool
is_named wide t None = is_made wide Name t
is_named wide t (Some p) = is_made wide Name p.0 && list_all is_digit p.1

-- host [ ":" port ]
abbrev pub is_host : Bool → Text → Bool
is_host wide [] = true
is_host wide (c ∷ cs) = if c == 91 then is_bracketed (cut 93 cs) else is_named wide (c ∷ cs) (cut 58 (c ∷ cs))

-- authority = [ userinfo "@" ] host [ ":" port ]
abbrev pub is_authority_with : Bool → Text → Option (Text × Text) → Bool
is_authority_with wide t None = is_host wide t
is_authority_with wide t (Some p) = is_made wide User p.0 && is_host wide p.1

abbrev pub is_authority : Bool → Text → Bool
is_authority wide t = is_authority_with wide t (cut 64 t)

-- each component, if it is present
abbrev pub scheme_fits : Option Text → Bool
scheme_fits None = true
scheme_fits (Some t) = is_scheme t

abbrev pub authority_fits : Bool → Option Text → Bool
authority_fits wide None = true
authority_fits wide (Some t) = is_authority wide t

abbrev pub end_fits : Bool → Option Text → Bool
end_fits wide None = true
end_fits wide (Some t) = is_made wide Fragment t

abbrev pub begins_with_colon : Text → Bool
begins_with_colon [] = false
begins_with_colon (c ∷ cs) = c == 58

-- if a path comes first, its first segment has no colon (RFC 3986, section 4.2); only a leading
-- colon is tested, since a later one would end a scheme
abbrev pub path_fits : Bool → Components → Bool
path_fits wide c = is_made wide Path c.path && (is_some c.scheme || is_some c.authority || not (begins_with_colon c.path))

-- each component of a reference is as the grammar allows
abbrev pub fit : Bool → Components → Bool
fit wide c = scheme_fits c.scheme && authority_fits wide c.authority && path_fits wide c && end_fits wide c.query && end_fits wide c.fragment

-- URI-reference = URI / relative-ref
abbrev pub is_uri_reference : Text → Bool
is_uri_reference t = fit false (components t)

-- URI = scheme ":" hier-part [ "?" query ] [ "#" fragment ]
abbrev pub is_uri : Text → Bool
is_uri t = is_some (components t).scheme && is_uri_reference t

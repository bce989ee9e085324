-- What `contentEncoding` and `contentMediaType` assert of a text in draft 7: that it is base64,
-- JSON, or JSON in base64. (JSON Schema Validation, draft 7, sections 8.3 and 8.4; RFC 2045,
-- section 6.8; RFC 4648, section 4; RFC 8259) A decoder of base64 ignores line breaks, as RFC 2045
-- demands. Other characters outside the alphabet are refused, which RFC 2045 allows.
use Rattle.std.specs.Prelude.{Bool, Err, List, Ok, Result, false, is_ok, is_some, not, ◌&&◌, ◌==◌, ◌||◌, ℕ}
use Rattle.std.specs.List.{filter}
use Rattle.std.specs.Str.{is_utf8}
use Rattle.base64.specs.Engines.{standard}
use Rattle.base64.specs.GeneralPurpose.{decode_of}
use Rattle.base64.specs.declared.decode.DecodeError.{DecodeError}
use Rattle.serde_json.specs.Read.{read}
use Rattle.theory_definitions.specs.Instance.{Text}

-- a carriage return or a line feed
abbrev pub is_break : ℕ → Bool
is_break c = (c == 13) || (c == 10)

-- the characters of a text that are not line breaks
abbrev pub unbroken : Text → Text
unbroken t = filter (λ c. not (is_break c)) t

-- the alphabet of RFC 4648, section 4, with its padding, line breaks aside
abbrev pub is_base64 : Text → Bool
is_base64 t = is_ok (decode_of standard (unbroken t))

-- a JSON text as `serde_json` reads it: nested at most 127 deep, without a number past the floats
-- or an escape of half a surrogate pair
abbrev pub is_json : Text → Bool
is_json t = is_some (read t)

-- the same of the bytes that base64 decodes to
abbrev pub is_json_bytes : List ℕ → Bool
is_json_bytes bytes = is_utf8 bytes && is_json bytes

abbrev pub is_json_of : Result (List ℕ) DecodeError → Bool
is_json_of (Ok bytes) = is_json_bytes bytes
is_json_of (Err e) = false

abbrev pub is_json_in_base64 : Text → Bool
is_json_in_base64 t = is_json_of (decode_of standard (unbroken t))

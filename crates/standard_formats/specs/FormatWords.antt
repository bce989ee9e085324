-- The meanings of `format`, `contentEncoding` and `contentMediaType`: the instances of which they
-- hold, and the texts of their errors. Each holds of an instance that is no text. (JSON Schema
-- Validation, draft 2020-12, sections 7.1 to 7.3; draft 7, sections 8.3 and 8.4)
use Rattle.std.specs.Prelude.{Bool, List, None, Option, Some, codes, true, ◌++◌}
use Rattle.serde_json.specs.Find.{as_str}
use Rattle.theory_definitions.specs.Instance.{Subject, Text, a_name, a_value}
use Rattle.theory_definitions.specs.Meaning.{subject_text}
use Rattle.keyword_authoring.specs.Ways.{unless}
use Rattle.pattern_matcher.specs.PatternMatching.{is_readable}
use Rattle.text_formats.specs.Formats.{accepts, name_of}
use Rattle.standard_formats.specs.declared.keyword.FormatKeyword.{FormatKeyword}
use Rattle.standard_formats.specs.declared.keyword.FormatKeyword.TheVariants.{Base64, IdnHostname, Json, JsonInBase64, Of, Regex}
use Rattle.standard_formats.specs.Contents.{is_base64, is_json, is_json_in_base64}
use Rattle.standard_formats.specs.IdnHostnames.{is_idn_hostname}

-- whether a text passes the keyword's test
abbrev pub takes : FormatKeyword → Text → Bool
takes (Of format) t = accepts format t
takes Regex t = is_readable t
takes IdnHostname t = is_idn_hostname t
takes Base64 t = is_base64 t
takes Json t = is_json t
takes JsonInBase64 t = is_json_in_base64 t

abbrev pub takes_any : FormatKeyword → Option Text → Bool
takes_any k None = true
takes_any k (Some t) = takes k t

abbrev pub holds : FormatKeyword → Subject → Bool
holds k (a_value d) = takes_any k (as_str d)
holds k (a_name name) = takes k name

abbrev pub called : FormatKeyword → Text
called (Of format) = codes "format"
called Regex = codes "format"
called IdnHostname = codes "format"
called Base64 = codes "contentEncoding"
called Json = codes "contentMediaType"
called JsonInBase64 = codes "contentMediaType"

abbrev pub no_format : Text → Text
no_format name = codes " is not a \"" ++ name ++ codes "\""

abbrev pub no_json : Text
no_json = codes " is not compliant with \"application/json\" media type"

-- the words that follow the instance in the error's text
abbrev pub complaint : FormatKeyword → Text
complaint (Of format) = no_format (name_of format)
complaint Regex = no_format (codes "regex")
complaint IdnHostname = no_format (codes "idn-hostname")
complaint Base64 = codes " is not compliant with \"base64\" content encoding"
complaint Json = no_json
complaint JsonInBase64 = no_json

abbrev pub error_text : FormatKeyword → Subject → Text
error_text k s = subject_text s ++ complaint k

-- the text of its one error, or none if it holds
abbrev pub error_texts : FormatKeyword → Subject → List Text
error_texts k s = unless (holds k s) (error_text k s)

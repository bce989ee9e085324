-- What `format` makes, draft by draft, and `contentEncoding` and `contentMediaType` in draft 7. If
-- formats are checked, then `format` makes a keyword of a name that the draft has, or of `date`,
-- `time` or `regex` in any draft, and nothing of another name; a value that is no text is refused.
-- If they are not checked, then it makes nothing, whatever its value. The media type of JSON takes
-- the encoding beside it into account, and makes one keyword for both; any other media type makes
-- nothing, and the encoding beside it is asserted by itself. (JSON Schema Validation: draft
-- 2020-12, sections 7.2 and 7.3; draft 7, sections 7.3, 8.3 and 8.4; draft 6, section 8.3; draft 4,
-- section 7.3)
use Rattle.std.specs.Prelude.{Bool, List, None, Option, Some, [], bytes_eq, codes, false, if◌then◌else◌, nat_le, true, ◌&&◌, ◌≡◌, ℕ}
use Rattle.std.specs.Str.{str_eq_ignore_ascii_case}
use Rattle.serde_json.specs.Data.{Data, Members}
use Rattle.serde_json.specs.Find.{as_str, get_member}
use Rattle.theory_definitions.specs.Drafts.{Draft, Vocabularies, draft_2019_09, draft_2020_12, draft_4, draft_6, draft_7, draft_unknown}
use Rattle.theory_definitions.specs.Instance.{Text}
use Rattle.theory_definitions.specs.Making.{Script, nothing, then_end}
use Rattle.schema_traits.specs.MakerViews.{MakesRightly}
use Rattle.keyword_makers.specs.ByObject.{MadeHere, by_object, makes_by_object, right_without_values}
use Rattle.keyword_makers.specs.declared.by_object.ObjectKeyword.TheVariants as here
use Rattle.keyword_makers.specs.declared.by_value.Children.TheVariants as children
use Rattle.text_formats.specs.Formats.{named}
use Rattle.text_formats.specs.declared.formats.Format.{Format}
use Rattle.text_formats.specs.declared.formats.Format.TheVariants as format
use Rattle.standard_formats.specs.declared.keyword.FormatKeyword.{FormatKeyword}
use Rattle.standard_formats.specs.declared.keyword.FormatKeyword.TheVariants.{Base64, IdnHostname, Json, JsonInBase64, Of, Regex}

-- the numbers of the drafts in their order; an unknown draft counts as the last one
abbrev pub order : Draft → ℕ
order draft_4 = 4
order draft_6 = 6
order draft_7 = 7
order draft_2019_09 = 2019
order draft_2020_12 = 2020
order draft_unknown = 2020

-- the number of the first draft in which a format is checked: the first that has it, but draft 4
-- for `date` and `time`, which were defined before draft 4 and again from draft 7 on
abbrev pub since : Format → ℕ
since format.Date = 4
since format.DateTime = 4
since format.Duration = 2019
since format.Email = 4
since format.Hostname = 4
since format.IdnEmail = 7
since format.Ipv4 = 4
since format.Ipv6 = 4
since format.Iri = 7
since format.IriReference = 7
since format.JsonPointer = 6
since format.RelativeJsonPointer = 7
since format.Time = 4
since format.Uri = 4
since format.UriReference = 6
since format.UriTemplate = 6
since format.Uuid = 2019

abbrev pub known : Draft → Option Format → Option FormatKeyword
known draft None = None
known draft (Some f) = if nat_le (since f) (order draft) then Some (Of f) else None

-- An internationalized host name is checked from draft 7 on.
abbrev pub idn_hostname_in : Draft → Option FormatKeyword
idn_hostname_in draft = if nat_le 7 (order draft) then Some IdnHostname else None

abbrev pub keyword_named : Draft → Text → Option FormatKeyword
keyword_named draft t =
    if bytes_eq t (codes "regex") then Some Regex
    else if bytes_eq t (codes "idn-hostname") then idn_hostname_in draft
    else known draft (named t)

abbrev pub keyword_if : Option FormatKeyword → MadeHere FormatKeyword
keyword_if None = here.Nothing
keyword_if (Some k) = here.Keyword k children.Childless

abbrev pub format_made : Draft → Option Text → MadeHere FormatKeyword
format_made draft None = here.Malformed
format_made draft (Some t) = keyword_if (keyword_named draft t)

-- ---- contents

-- the drafts in which the contents are asserted: draft 7, the first to have the two keywords; in
-- later drafts they are annotations (draft 2020-12, section 8.1)
abbrev pub asserts_contents : Draft → Bool
asserts_contents draft_4 = false
asserts_contents draft_6 = false
asserts_contents draft_7 = true
asserts_contents draft_2019_09 = false
asserts_contents draft_2020_12 = false
asserts_contents draft_unknown = false

-- the name of base64, in letters of either case: the names of encodings have none (RFC 2045,
-- section 6.1, which draft 7, section 8.3, cites)
abbrev pub is_base64_name : Text → Bool
is_base64_name t = str_eq_ignore_ascii_case t (codes "base64")

-- JSON in the encoding beside it
abbrev pub json_in : Option Text → MadeHere FormatKeyword
json_in None = here.MalformedBeside (codes "contentEncoding")
json_in (Some encoding) = if is_base64_name encoding then here.Keyword JsonInBase64 children.Childless else here.Nothing

abbrev pub json_beside : Option Data → MadeHere FormatKeyword
json_beside None = here.Keyword Json children.Childless
json_beside (Some d) = json_in (as_str d)

abbrev pub media_type_made : Option Data → Option Text → MadeHere FormatKeyword
media_type_made beside None = here.Malformed
media_type_made beside (Some t) = if bytes_eq t (codes "application/json") then json_beside beside else here.Nothing

abbrev pub encoding_made : Option Text → MadeHere FormatKeyword
encoding_made None = here.Malformed
encoding_made (Some t) = if is_base64_name t then here.Keyword Base64 children.Childless else here.Nothing

abbrev pub is_json_name : Option Text → Bool
is_json_name None = false
is_json_name (Some t) = bytes_eq t (codes "application/json")

-- whether there is a value and it is the media type of JSON
abbrev pub is_json_type : Option Data → Bool
is_json_type None = false
is_json_type (Some d) = is_json_name (as_str d)

-- an encoding beside this media type, if there is one
abbrev pub encoding_beside : Option Data → Option Text → MadeHere FormatKeyword
encoding_beside beside encoding = if is_json_type beside then here.Nothing else encoding_made encoding

abbrev pub contents_made : Members → Text → Data → MadeHere FormatKeyword
contents_made object name d =
    if bytes_eq name (codes "contentMediaType") then media_type_made (get_member (codes "contentEncoding") object) (as_str d)
    else if bytes_eq name (codes "contentEncoding") then encoding_beside (get_member (codes "contentMediaType") object) (as_str d)
    else here.Nothing

-- ---- all keywords

abbrev pub made : Bool → Draft → Members → Text → Data → MadeHere FormatKeyword
made formats draft object name d =
    if formats && bytes_eq name (codes "format") then format_made draft (as_str d)
    else if asserts_contents draft then contents_made object name d
    else here.Nothing

-- the table owns no name
abbrev pub format_script : Bool → Text → Members → Draft → Vocabularies → Bool → Script FormatKeyword
format_script true name object draft vocabularies formats = then_end nothing
format_script false name object draft vocabularies formats = by_object (made formats) false name object draft vocabularies formats

-- A keyword that absorbs nothing and stores no value of the schema is made as it must be.
pub makes_rightly : (absorbed : FormatKeyword → List Text) (is_whole : FormatKeyword → Bool) → ((m : FormatKeyword) → [] ≡ absorbed m) → ((m : FormatKeyword) → is_whole m ≡ true)
    → (own : Bool) (name : Text) (object : Members) (draft : Draft) (vocabularies : Vocabularies) (formats : Bool)
    → MakesRightly absorbed is_whole object (format_script own name object draft vocabularies formats)
makes_rightly absorbed is_whole none whole true name object draft vocabularies formats = tt
makes_rightly absorbed is_whole none whole false name object draft vocabularies formats =
    makes_by_object absorbed is_whole (made formats) (λ draft object name d found. right_without_values absorbed is_whole none whole object (made formats draft object name d))
    false name object draft vocabularies formats

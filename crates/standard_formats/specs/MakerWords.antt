-- The makers of the table, and what they make, by what the code is given.
use Rattle.std.specs.BTreeMap.{BTreeMap}
use Rattle.std.specs.Prelude.{Bool, IfOk, Option, Result, String, codes}
use Rattle.std.specs.declared.alloc.Global.{Global}
use Rattle.serde_json.specs.Data.{Data}
use Rattle.serde_json.specs.Find.{get_member}
use Rattle.serde_json.specs.View.{view}
use Rattle.serde_json.specs.declared.value.Value.{Value}
use Rattle.schema_drafts.specs.KeywordViews.{builtin_text, draft_of}
use Rattle.schema_drafts.specs.declared.keywords.builtin.BuiltinKeyword.{BuiltinKeyword}
use Rattle.schema_drafts.specs.declared.keywords.drafts.Draft.{Draft}
use Rattle.schema_traits.specs.Readings.{fields}
use Rattle.keyword_authoring.specs.declared.leaves.Telling.{Telling}
use Rattle.keyword_makers.specs.ByObject.{MadeHere, script_found}
use Rattle.keyword_makers.specs.MakerViews.{Begins}
use Rattle.keyword_makers.specs.declared.maker.PathsMaker.{PathsMaker}
use Rattle.standard_formats.specs.FormatMaking.{made}
use Rattle.standard_formats.specs.Shapes.{shape_of}
use Rattle.standard_formats.specs.declared.keyword.FormatKeyword.{FormatKeyword}

-- what a built-in keyword with this value makes
abbrev pub made_of_value : Bool → Draft → BTreeMap (String Global) Value → BuiltinKeyword → Value → MadeHere FormatKeyword
made_of_value checked draft object keyword value = made checked (draft_of draft) (fields object) (builtin_text keyword) (view value)

-- if the result is `Ok`, it is a maker that begins with the script of the object's member with the
-- name of a built-in keyword
abbrev pub FollowsMember : {E : Type 0} → Result (PathsMaker (Telling FormatKeyword)) E → Bool → Draft → BTreeMap (String Global) Value → BuiltinKeyword → Type 0
FollowsMember result checked draft object keyword = IfOk result (Begins shape_of
    (script_found (made checked) (draft_of draft) (fields object) (builtin_text keyword) (get_member (builtin_text keyword) (fields object))))

-- the `contentEncoding` of an object, if present
abbrev pub encoding_in : BTreeMap (String Global) Value → Option Data
encoding_in object = get_member (codes "contentEncoding") (fields object)

-- the `contentMediaType` of an object, if present
abbrev pub media_type_in : BTreeMap (String Global) Value → Option Data
media_type_in object = get_member (codes "contentMediaType") (fields object)

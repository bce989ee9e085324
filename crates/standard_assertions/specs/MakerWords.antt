-- The makers of the table, and what they make, by what the code is given.
use Rattle.std.specs.BTreeMap.{BTreeMap}
use Rattle.std.specs.Prelude.{IfOk, Result, String}
use Rattle.std.specs.declared.alloc.Global.{Global}
use Rattle.serde_json.specs.Find.{get_member}
use Rattle.serde_json.specs.View.{view}
use Rattle.serde_json.specs.declared.value.Value.{Value}
use Rattle.schema_drafts.specs.KeywordViews.{builtin_text, draft_of}
use Rattle.schema_drafts.specs.declared.keywords.builtin.BuiltinKeyword.{BuiltinKeyword}
use Rattle.schema_drafts.specs.declared.keywords.drafts.Draft.{Draft}
use Rattle.schema_traits.specs.Readings.{fields}
use Rattle.keyword_authoring.specs.declared.leaves.Telling.{Telling}
use Rattle.keyword_makers.specs.ByObject.{MadeHere, script_found}
use Rattle.keyword_makers.specs.MakerViews.{Begins}
use Rattle.keyword_makers.specs.declared.maker.PathsMaker.{PathsMaker}
use Rattle.standard_assertions.specs.Assertions.{Shape}
use Rattle.standard_assertions.specs.Made.{made}
use Rattle.standard_assertions.specs.Shapes.{shape_of}

-- what a built-in keyword with this value makes
abbrev pub made_of_value : Draft → BTreeMap (String Global) Value → BuiltinKeyword → Value → MadeHere Shape
made_of_value draft object keyword value = made (draft_of draft) (fields object) (builtin_text keyword) (view value)

-- if the result is `Ok`, it is a maker that begins with the script of the object's member with the
-- name of a built-in keyword
abbrev pub FollowsMember : {E : Type 0} → Result (PathsMaker (Telling Shape)) E → Draft → BTreeMap (String Global) Value → BuiltinKeyword → Type 0
FollowsMember result draft object keyword = IfOk result (Begins shape_of
    (script_found made (draft_of draft) (fields object) (builtin_text keyword) (get_member (builtin_text keyword) (fields object))))

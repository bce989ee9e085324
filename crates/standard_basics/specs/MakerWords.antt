-- The makers of the table, and the scripts that they follow, by what the code is given.
use Rattle.std.specs.BTreeMap.{BTreeMap}
use Rattle.std.specs.Prelude.{IfOk, Result, String, codes}
use Rattle.std.specs.declared.alloc.Global.{Global}
use Rattle.serde_json.specs.Find.{get_member}
use Rattle.serde_json.specs.View.{view}
use Rattle.serde_json.specs.declared.value.Value.{Value}
use Rattle.theory_definitions.specs.Instance.{Text}
use Rattle.theory_definitions.specs.Making.{Script}
use Rattle.schema_drafts.specs.KeywordViews.{builtin_text, draft_of}
use Rattle.schema_drafts.specs.declared.keywords.builtin.BuiltinKeyword.{BuiltinKeyword}
use Rattle.schema_drafts.specs.declared.keywords.drafts.Draft.{Draft}
use Rattle.schema_traits.specs.Readings.{fields}
use Rattle.schema_applicators.specs.ApplicatorShape.{has_if}
use Rattle.keyword_makers.specs.Branches.{has_branch, if_script}
use Rattle.keyword_makers.specs.MakerViews.{Begins}
use Rattle.keyword_makers.specs.declared.maker.PathsMaker.{PathsMaker}
use Rattle.standard_basics.specs.BasicShape.{BasicShape, applies}
use Rattle.standard_basics.specs.Makers.{items_script, member_script, value_script}
use Rattle.standard_basics.specs.Shapes.{shape_of}
use Rattle.standard_basics.specs.declared.keyword.BasicKeyword.{BasicKeyword}

-- if the result is `Ok`, it is a maker that begins with this script
abbrev pub Follows : {E : Type 0} → Result (PathsMaker BasicKeyword) E → Script BasicShape → Type 0
Follows result script = IfOk result (Begins shape_of script)

-- the script of `items` with this value
abbrev pub script_of_items : Draft → BTreeMap (String Global) Value → Text → Value → Script BasicShape
script_of_items draft object name value = items_script (draft_of draft) (fields object) name (view value)

-- the script of `if`
abbrev pub script_of_if : BTreeMap (String Global) Value → Text → Script BasicShape
script_of_if object name = if_script (λ accepted refused. applies (has_if accepted refused)) name
    (has_branch (codes "then") (fields object)) (has_branch (codes "else") (fields object))

-- the script of a built-in keyword with this value
abbrev pub script_of_value : Draft → BTreeMap (String Global) Value → BuiltinKeyword → Value → Script BasicShape
script_of_value draft object keyword value = value_script (draft_of draft) (fields object) (builtin_text keyword) (view value)

-- the script of the object's member with the name of a built-in keyword
abbrev pub script_of_member : Draft → BTreeMap (String Global) Value → BuiltinKeyword → Script BasicShape
script_of_member draft object keyword = member_script (draft_of draft) (fields object) (builtin_text keyword) (get_member (builtin_text keyword) (fields object))

-- The makers of the table, and the scripts that they follow, by what the code is given.
use Rattle.std.specs.BTreeMap.{BTreeMap}
use Rattle.std.specs.Prelude.{IfOk, Result, String}
use Rattle.std.specs.declared.alloc.Global.{Global}
use Rattle.serde_json.specs.Find.{get_member}
use Rattle.serde_json.specs.View.{view}
use Rattle.serde_json.specs.declared.value.Value.{Value}
use Rattle.theory_definitions.specs.Making.{Script}
use Rattle.schema_drafts.specs.KeywordViews.{builtin_text}
use Rattle.schema_drafts.specs.declared.keywords.builtin.BuiltinKeyword.{BuiltinKeyword}
use Rattle.schema_traits.specs.Readings.{fields}
use Rattle.keyword_makers.specs.MakerViews.{Begins}
use Rattle.keyword_makers.specs.declared.maker.PathsMaker.{PathsMaker}
use Rattle.standard_pattern_properties.specs.Making.{member_script, value_script}
use Rattle.standard_pattern_properties.specs.declared.keyword.GatedKeyword.{GatedKeyword}

-- if the result is `Ok`, it is a maker that begins with this script
abbrev pub Follows : {E : Type 0} → Result (PathsMaker GatedKeyword) E → Script GatedKeyword → Type 0
Follows result script = IfOk result (Begins (λ k. k) script)

-- the script of a built-in keyword with this value
abbrev pub script_of_value : BTreeMap (String Global) Value → BuiltinKeyword → Value → Script GatedKeyword
script_of_value object keyword value = value_script (fields object) (builtin_text keyword) (view value)

-- the script of the object's member with the name of a built-in keyword
abbrev pub script_of_member : BTreeMap (String Global) Value → BuiltinKeyword → Script GatedKeyword
script_of_member object keyword = member_script (fields object) (builtin_text keyword) (get_member (builtin_text keyword) (fields object))

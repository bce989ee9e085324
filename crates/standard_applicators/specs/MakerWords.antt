-- The makers of the table, and the scripts that they follow, by what the code is given.
use Rattle.std.specs.BTreeMap.{BTreeMap}
use Rattle.std.specs.Prelude.{IfOk, Result, String}
use Rattle.std.specs.declared.alloc.Global.{Global}
use Rattle.serde_json.specs.Find.{get_member}
use Rattle.serde_json.specs.View.{view}
use Rattle.serde_json.specs.declared.value.Value.{Value}
use Rattle.theory_definitions.specs.Instance.{Text}
use Rattle.theory_definitions.specs.Making.{Script}
use Rattle.schema_drafts.specs.KeywordViews.{builtin_text, draft_of}
use Rattle.schema_drafts.specs.declared.keywords.builtin.BuiltinKeyword.{BuiltinKeyword}
use Rattle.schema_drafts.specs.declared.keywords.drafts.Draft.{Draft}
use Rattle.schema_traits.specs.Readings.{fields}
use Rattle.keyword_makers.specs.MakerViews.{Begins}
use Rattle.keyword_makers.specs.declared.maker.PathsMaker.{PathsMaker}
use Rattle.standard_applicators.specs.Makers.{additional_items_script, contains_script, items_script, member_script, value_script}
use Rattle.standard_applicators.specs.declared.applicator.StandardApplicator.{StandardApplicator}

-- if the result is `Ok`, it is a maker that begins with this script
abbrev pub Follows : {E : Type 0} → Result (PathsMaker StandardApplicator) E → Script StandardApplicator → Type 0
Follows result script = IfOk result (Begins (λ k. k) script)

-- the script of `contains`
abbrev pub script_of_contains : Draft → BTreeMap (String Global) Value → Text → Script StandardApplicator
script_of_contains draft object name = contains_script (draft_of draft) (fields object) name

-- the script of `items` with this value
abbrev pub script_of_items : Draft → BTreeMap (String Global) Value → Text → Value → Script StandardApplicator
script_of_items draft object name value = items_script (draft_of draft) (fields object) name (view value)

-- the script of `additionalItems` with this value
abbrev pub script_of_others : Draft → BTreeMap (String Global) Value → Text → Value → Script StandardApplicator
script_of_others draft object name value = additional_items_script (draft_of draft) (fields object) name (view value)

-- the script of a built-in keyword with this value
abbrev pub script_of_value : Draft → BTreeMap (String Global) Value → BuiltinKeyword → Value → Script StandardApplicator
script_of_value draft object keyword value = value_script (draft_of draft) (fields object) (builtin_text keyword) (view value)

-- the script of the object's member with the name of a built-in keyword
abbrev pub script_of_member : Draft → BTreeMap (String Global) Value → BuiltinKeyword → Script StandardApplicator
script_of_member draft object keyword = member_script (draft_of draft) (fields object) (builtin_text keyword) (get_member (builtin_text keyword) (fields object))

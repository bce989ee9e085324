-- The makers of the table, and the scripts that they follow, by what the code is given.
use Rattle.std.specs.BTreeMap.{BTreeMap}
use Rattle.std.specs.Prelude.{Bool, Option, Result, String, option_map, string_bytes}
use Rattle.std.specs.declared.alloc.Global.{Global}
use Rattle.serde_json.specs.Find.{get_member}
use Rattle.serde_json.specs.declared.value.Value.{Value}
use Rattle.theory_definitions.specs.Drafts.{Vocabularies}
use Rattle.theory_definitions.specs.Instance.{Text}
use Rattle.theory_definitions.specs.Making.{Script}
use Rattle.schema_drafts.specs.KeywordViews.{draft_of}
use Rattle.schema_drafts.specs.declared.keywords.drafts.Draft.{Draft}
use Rattle.schema_traits.specs.MakerViews.{begun}
use Rattle.schema_traits.specs.Readings.{fields}
use Rattle.schema_traits.specs.Showing.{Shows}
use Rattle.keyword_authoring.specs.declared.leaves.Telling.{Telling}
use Rattle.keyword_makers.specs.declared.maker.PathsMaker.{PathsMaker}
use Rattle.standard_applicators.specs.declared.applicator.StandardApplicator.{StandardApplicator}
use Rattle.standard_assertions.specs.Assertions.{Shape as Assertion}
use Rattle.standard_basics.specs.declared.keyword.BasicKeyword.{BasicKeyword}
use Rattle.standard_formats.specs.declared.keyword.FormatKeyword.{FormatKeyword}
use Rattle.standard_pattern_properties.specs.declared.keyword.GatedKeyword.{GatedKeyword}
use Rattle.standard_keywords.specs.declared.family.Family.{Family}
use Rattle.standard_keywords.specs.StandardScripts.{Shape, refused_at, standard_waiting, treated_script}

-- if the result is `Ok`, it is a maker that begins with this script
abbrev pub Follows : {E : Type 0} → Result (Family (PathsMaker (Telling Assertion)) (PathsMaker StandardApplicator) (PathsMaker GatedKeyword) (PathsMaker (Telling FormatKeyword)) (PathsMaker BasicKeyword)) E
    → Script Shape → Type 0
Follows result script = Shows standard_waiting result (begun script)

-- the script that refuses the object's member of this name with this text
abbrev pub script_of_refusal : BTreeMap (String Global) Value → Text → Text → Script Shape
script_of_refusal object name text = refused_at name text (get_member name (fields object))

-- the script of the object's member of this name, by how the keyword is treated
abbrev pub script_of_member : Bool → Text → BTreeMap (String Global) Value → Draft → Vocabularies → Bool → Script Shape
script_of_member own name object draft vocabularies formats = treated_script own name (fields object) (draft_of draft) vocabularies formats

-- if the result is `Ok`, it is the text of this refusal, or nothing without one
abbrev pub ShowsRefusal : {E : Type 0} → Result (Option (String Global)) E → Option Text → Type 0
ShowsRefusal result meant = Shows (option_map string_bytes) result meant

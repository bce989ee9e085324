-- What the maker of each keyword requests, and how it ends.
use Rattle.std.specs.Prelude.{Bool, None, Option, Some, bytes_eq, codes, false, if◌then◌else◌, true}
use Rattle.serde_json.specs.Data.{Data, Members}
use Rattle.serde_json.specs.Written.{compact_text, has_float}
use Rattle.serde_json.specs.Find.{get_member}
use Rattle.theory_definitions.specs.Instance.{Text}
use Rattle.theory_definitions.specs.Drafts.{Draft, Vocabularies}
use Rattle.theory_definitions.specs.Making.{Script, nothing, then_end}
use Rattle.schema_applicators.specs.ApplicatorShape.{ApplicatorShape, has_all_of, has_any_of, has_if, has_not, has_one_of}
use Rattle.keyword_makers.specs.Branches.{has_branch, if_script}
use Rattle.keyword_makers.specs.Making.{list_script, only_child}

-- the members are those of the object that has the keyword

abbrev pub value_script : Members → Text → Data → Script ApplicatorShape
value_script ms name d =
    if bytes_eq name (codes "allOf") then list_script has_all_of name d
    else (if bytes_eq name (codes "anyOf") then list_script has_any_of name d
    else (if bytes_eq name (codes "oneOf") then list_script has_one_of name d
    else (if bytes_eq name (codes "not") then only_child name (has_not (compact_text d) (has_float d))
    else (if bytes_eq name (codes "if") then if_script has_if name (has_branch (codes "then") ms) (has_branch (codes "else") ms) else then_end nothing))))

abbrev pub member_script : Members → Text → Option Data → Script ApplicatorShape
member_script ms name None = then_end nothing
member_script ms name (Some d) = value_script ms name d

-- the table owns no name
abbrev pub applicator_script : Bool → Text → Members → Draft → Vocabularies → Bool → Script ApplicatorShape
applicator_script true name ms draft vocabularies formats = then_end nothing
applicator_script false name ms draft vocabularies formats = member_script ms name (get_member name ms)

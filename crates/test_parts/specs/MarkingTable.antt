-- A table that makes `allOf` a keyword that marks its two children.
use Rattle.std.specs.Prelude.{bytes_eq, codes, if◌then◌else◌, ⊤}
use Rattle.serde_json.specs.Data.{Data}
use Rattle.theory_definitions.specs.Instance.{Text}
use Rattle.keyword_makers.specs.ByValue.{MadeMember}
use Rattle.keyword_makers.specs.declared.by_value.Children.TheVariants as children
use Rattle.keyword_makers.specs.declared.by_value.MemberKeyword.TheVariants.{Keyword, Nothing}

-- `allOf` makes the keyword, with its items as children, and every other member makes none
abbrev pub made : Text → Data → MadeMember ⊤
made name value = if bytes_eq name (codes "allOf") then Keyword tt children.Items else Nothing

-- `x-no-text`, `x-one-of` and `x-all-of`.
use Rattle.std.specs.Prelude.{Bool, bytes_eq, codes, if◌then◌else◌, is_some, not, ⊤, ℕ, ◌==◌}
use Rattle.serde_json.specs.Data.{Data}
use Rattle.theory_definitions.specs.Instance.{Subject, Text, a_value}
use Rattle.keyword_authoring.specs.Items.{child_here, each_from, item_count}
use Rattle.keyword_authoring.specs.Texts.{as_text}
use Rattle.keyword_authoring.specs.Ways.{Way, passes_on}
use Rattle.keyword_makers.specs.ByValue.{MadeMember}
use Rattle.keyword_makers.specs.declared.by_value.Children.TheVariants as children
use Rattle.keyword_makers.specs.declared.by_value.MemberKeyword.TheVariants.{Keyword, Nothing}
use Rattle.example_keywords.specs.declared.wrapped.AllOf.{AllOf}
use Rattle.example_keywords.specs.declared.wrapped.OneOf.{OneOf}

abbrev pub is_no_text : Subject → Bool
is_no_text s = not (is_some (as_text s))

abbrev pub text_refused : Text
text_refused = codes "this is a text"

abbrev pub is_one : ℕ → Bool
is_one n = n == 1

-- the text of the error of `x-one-of`, by the number of schemas that accept
abbrev pub count_told : ℕ → Text
count_told n = if n == 0 then codes "no schema accepts" else codes "more than one schema accepts"

-- `x-all-of` passes on the answers of this many children
abbrev pub all_of_way : ℕ → Way
all_of_way n = passes_on (each_from child_here 0 n)

-- ---- what a member of a schema makes

abbrev pub no_text_made : Text → Data → MadeMember ⊤
no_text_made name d = if bytes_eq name (codes "x-no-text") then Keyword tt children.Childless else Nothing

abbrev pub one_of_made : Text → Data → MadeMember OneOf
one_of_made name d = if bytes_eq name (codes "x-one-of") then Keyword (record { schemas = item_count (a_value d) }) children.Items else Nothing

abbrev pub all_of_made : Text → Data → MadeMember AllOf
all_of_made name d = if bytes_eq name (codes "x-all-of") then Keyword (record { schemas = item_count (a_value d) }) children.Items else Nothing

-- `minItems` and `contains`. (Validation 2020-12, 6.4.2; Core 2020-12, 10.3.1.3)
use Rattle.std.specs.Prelude.{None, Option, Some, bytes_eq, codes, decimal, if◌then◌else◌, nat_le, option_and_then, refl, true, ℕ, ◌++◌}
use Rattle.serde_json.specs.Data.{Data}
use Rattle.serde_json.specs.Find.{as_number, as_u64}
use Rattle.theory_definitions.specs.Instance.{Subject, Text}
use Rattle.theory_definitions.specs.Meaning.{subject_text}
use Rattle.keyword_authoring.specs.Items.{is_list, item_count}
use Rattle.keyword_authoring.specs.Plans.{either_says_monotone}
use Rattle.keyword_authoring.specs.WayGrows.{PlansGrow}
use Rattle.keyword_authoring.specs.declared.planned.Asks.TheVariants as asks
use Rattle.keyword_authoring.specs.declared.planned.Plan.{Plan}
use Rattle.keyword_authoring.specs.declared.planned.Plan.TheVariants.{AtLeast, Holds}
use Rattle.keyword_makers.specs.ByValue.{MadeMember}
use Rattle.keyword_makers.specs.declared.by_value.Children.TheVariants as children
use Rattle.keyword_makers.specs.declared.by_value.MemberKeyword.TheVariants.{Keyword, Malformed, Nothing}
use Rattle.example_keywords.specs.declared.arrays.ArrayKeyword.{ArrayKeyword}
use Rattle.example_keywords.specs.declared.arrays.ArrayKeyword.TheVariants.{Contains, MinItems}

-- an instance that is not an array is accepted
abbrev pub planned : ArrayKeyword → Subject → Plan
planned (MinItems limit) s = if is_list s then Holds (nat_le limit (item_count s)) else Holds true
planned Contains s = if is_list s then AtLeast asks.Items 1 else Holds true

abbrev pub name : ArrayKeyword → Text
name (MinItems limit) = codes "minItems"
name Contains = codes "contains"

-- the text of the error
abbrev pub told : ArrayKeyword → Subject → ℕ → Text
told (MinItems limit) s accepted = subject_text s ++ (codes " has less than " ++ (decimal limit ++ codes " items"))
told Contains s accepted = subject_text s ++ codes " has no item that is valid"

-- no plan of either has an upper bound
pub grows : PlansGrow planned (λ k. true)
grows (MinItems limit) s h = either_says_monotone (is_list s) _ _ refl refl
grows Contains s h = either_says_monotone (is_list s) _ _ refl refl

-- ---- what a member of a schema makes

abbrev pub min_items : Option ℕ → MadeMember ArrayKeyword
min_items None = Malformed
min_items (Some limit) = Keyword (MinItems limit) children.Childless

abbrev pub made : Text → Data → MadeMember ArrayKeyword
made name d =
    if bytes_eq name (codes "minItems") then min_items (option_and_then as_u64 (as_number d))
    else (if bytes_eq name (codes "contains") then Keyword Contains children.Itself else Nothing)

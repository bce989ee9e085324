-- `x-suffix`, `x-both` and `x-contains-between`.
use Rattle.std.specs.Prelude.{Bool, None, Option, Some, String, bytes_eq, codes, decimal, if◌then◌else◌, nat_eq, nat_le, nat_lt, option_and_then, option_map, string_bytes, true, unwrap_or, ℕ, ◌++◌, ◌==◌, ◌||◌}
use Rattle.std.specs.declared.alloc.Global.{Global}
use Rattle.std.specs.List.{ends_with}
use Rattle.serde_json.specs.Data.{Data}
use Rattle.serde_json.specs.Find.{as_number, as_str, as_u64, get}
use Rattle.theory_definitions.specs.Instance.{Subject, Text, a_value}
use Rattle.theory_definitions.specs.Meaning.{subject_text}
use Rattle.keyword_authoring.specs.Items.{is_list, item_count}
use Rattle.keyword_authoring.specs.Texts.{as_text}
use Rattle.keyword_authoring.specs.declared.planned.Asks.TheVariants as asks
use Rattle.keyword_authoring.specs.declared.planned.Plan.{Plan}
use Rattle.keyword_authoring.specs.declared.planned.Plan.TheVariants.{Holds, PassesOn, Within}
use Rattle.keyword_makers.specs.ByValue.{MadeMember, made_if}
use Rattle.keyword_makers.specs.declared.by_value.Children.TheVariants as children
use Rattle.keyword_makers.specs.declared.by_value.MemberKeyword.TheVariants.{Nothing}
use Rattle.example_keywords.specs.declared.strings.StringKeyword.{StringKeyword}
use Rattle.example_keywords.specs.declared.strings.StringKeyword.TheVariants.{Both, ContainsBetween, Suffix}

-- a keyword with its text as the definitions have it
abbrev pub Shape : Type 0
Shape = StringKeyword Text

abbrev pub shape_of : StringKeyword (String Global) → Shape
shape_of (Suffix end) = Suffix (string_bytes end)
shape_of Both = Both
shape_of (ContainsBetween least most) = ContainsBetween least most

-- `x-suffix` accepts an instance that is not a text, and `x-contains-between` one that is not an
-- array
abbrev pub planned : Shape → Subject → Plan
planned (Suffix end) s = Holds (unwrap_or (option_map (λ text. ends_with nat_eq text end) (as_text s)) true)
planned Both s = PassesOn (asks.Children 2)
planned (ContainsBetween least most) s = if is_list s then Within asks.Items least most else Holds true

abbrev pub called : Shape → Text
called (Suffix end) = codes "x-suffix"
called Both = codes "x-both"
called (ContainsBetween least most) = codes "x-contains-between"

-- `x-both` reports no error of its own
abbrev pub error_text : Shape → Subject → ℕ → Text
error_text (Suffix end) s n = subject_text s ++ (codes " does not end with \"" ++ (end ++ codes "\""))
error_text Both s n = subject_text s
error_text (ContainsBetween least most) s n = subject_text s ++ (if nat_lt n least
    then codes " has " ++ (decimal n ++ (codes " items that fit, not " ++ decimal least))
    else codes " has more than " ++ (decimal most ++ codes " items that fit"))

-- ---- what a member of a schema makes

abbrev pub owned : Text → Bool
owned name = bytes_eq name (codes "x-suffix") || bytes_eq name (codes "x-both") || bytes_eq name (codes "x-contains-between")

abbrev pub number : Data → Option ℕ
number d = option_and_then as_u64 (as_number d)

-- `x-contains-between` from `min` to `max`, if its value also has a `schema`
abbrev pub between : Option Data → Option ℕ → Option ℕ → Option Shape
between (Some schema) (Some least) (Some most) = if nat_le least most then Some (ContainsBetween least most) else None
between schema least most = None

abbrev pub by_members : Data → Option Shape
by_members d = between (get (codes "schema") d) (option_and_then number (get (codes "min") d)) (option_and_then number (get (codes "max") d))

abbrev pub made : Text → Data → MadeMember Shape
made name d =
    if bytes_eq name (codes "x-suffix") then made_if (option_map Suffix (as_str d)) children.Childless
    else (if bytes_eq name (codes "x-both") then made_if (if item_count (a_value d) == 2 then Some Both else None) children.Items
    else (if bytes_eq name (codes "x-contains-between") then made_if (by_members d) (children.Member (codes "schema")) else Nothing))

-- What the makers request and make. The basic keywords are made as by the basic table. If an object
-- has an `items` that is not an array, a `minItems` that is a whole number, and "array" as `type`,
-- then the maker of `items` makes the three in one, and the other two make nothing.
use Rattle.std.specs.Prelude.{Bool, None, Option, Some, [], bytes_eq, codes, false, if◌then◌else◌, is_some, not, option_and_then, true, ℕ, ◌&&◌, ◌||◌, ◌∷◌}
use Rattle.serde_json.specs.Data.{Data, Members, string}
use Rattle.serde_json.specs.Find.{as_array, as_number, as_u64, get_member}
use Rattle.theory_definitions.specs.Instance.{Place, Text, to_member}
use Rattle.theory_definitions.specs.Drafts.{Draft, Vocabularies}
use Rattle.schema_drafts.specs.KeywordTable.{builtin_in}
use Rattle.theory_definitions.specs.Making.{Made, Script, a_keyword, nothing, refused, then_compile, then_end, then_pending, then_refer, then_reserve}
use Rattle.schema_traits.specs.MakerViews.{Waiting, begun, ended, wants_pending, wants_reserved, waits}
use Rattle.keyword_makers.specs.ByValue.{MadeMember, script_at}
use Rattle.standard_basics.specs.Makers.{basic_script, items_before}
use Rattle.keyword_makers.specs.declared.by_value.Children.TheVariants as children
use Rattle.keyword_makers.specs.declared.by_value.MemberKeyword.TheVariants.{Keyword, Malformed, Nothing}
use Rattle.example_fused_keywords.specs.FusedShape.{FusedShape, of_array, of_bench}
use Rattle.example_fused_keywords.specs.Openings.{absorbs}
use Rattle.example_fused_keywords.specs.declared.array.ArrayKeyword.{ArrayKeyword}
use Rattle.example_fused_keywords.specs.declared.array.ArrayKeyword.TheVariants.{ArrayShape, MinItems}

-- ---- the basic keywords, as keywords of this table

abbrev pub made_among : {A B : Type 0} → (A → B) → Made A → Made B
made_among f (a_keyword m names) = a_keyword (f m) names
made_among f nothing = nothing
made_among f (refused told e) = refused told e

abbrev pub script_among : {A B : Type 0} → (A → B) → Script A → Script B
script_among f (then_compile path s) = then_compile path (script_among f s)
script_among f (then_refer text s skipped) = then_refer text (script_among f s) (script_among f skipped)
script_among f (then_pending purpose free held) = then_pending purpose (script_among f free) (script_among f held)
script_among f (then_reserve purpose s) = then_reserve purpose (script_among f s)
script_among f (then_end m) = then_end (made_among f m)

abbrev pub waiting_among : {A B : Type 0} → (A → B) → Waiting A → Waiting B
waiting_among f (begun s) = begun (script_among f s)
waiting_among f (waits n s skipped) = waits n (script_among f s) (script_among f skipped)
waiting_among f (wants_pending n free held) = wants_pending n (script_among f free) (script_among f held)
waiting_among f (wants_reserved n s) = wants_reserved n (script_among f s)
waiting_among f ended = ended

-- ---- minItems

abbrev pub least_in : Data → Option ℕ
least_in d = option_and_then as_u64 (as_number d)

abbrev pub least_keyword : Option ℕ → MadeMember FusedShape
least_keyword None = Malformed
least_keyword (Some n) = Keyword (of_array (MinItems n)) children.Childless

abbrev pub least_made : Text → Data → MadeMember FusedShape
least_made name d = if bytes_eq name (codes "minItems") then least_keyword (least_in d) else Nothing

-- ---- the three in one

abbrev pub says_array : Data → Bool
says_array (string t) = bytes_eq t (codes "array")
says_array _ = false

-- the limit that is the value of `minItems`, if the values of `type` and `items` allow the fusion
abbrev pub limit_of : Option Data → Option Data → Option Data → Option ℕ
limit_of (Some t) (Some i) (Some l) = if says_array t && not (is_some (as_array i)) then least_in l else None
limit_of _ _ _ = None

-- the draft has this keyword, and the vocabulary that it needs is in force
abbrev pub is_known : Draft → Vocabularies → Text → Bool
is_known draft vocabularies name = is_some (builtin_in draft vocabularies name)

abbrev pub are_known : Draft → Vocabularies → Bool
are_known draft vocabularies = is_known draft vocabularies (codes "type") && (is_known draft vocabularies (codes "minItems") && is_known draft vocabularies (codes "items"))

-- the limit of the fused keyword, if the object fuses the three
abbrev pub fused_limit : Draft → Vocabularies → Members → Option ℕ
fused_limit draft vocabularies ms =
    if are_known draft vocabularies then limit_of (get_member (codes "type") ms) (get_member (codes "items") ms) (get_member (codes "minItems") ms) else None

-- the value of `items` is its only schema
abbrev pub ends_fused : ArrayKeyword → Script FusedShape
ends_fused k = then_end (a_keyword (of_array k) (absorbs k))

abbrev pub items_place : Place
items_place = to_member (codes "items") ∷ []

abbrev pub asks_fused : ArrayKeyword → Script FusedShape
asks_fused k = then_compile items_place (ends_fused k)

-- ---- all of them

abbrev pub plain_script : Text → Members → Draft → Vocabularies → Bool → Script FusedShape
plain_script name ms draft vocabularies formats =
    if bytes_eq name (codes "minItems") then script_at least_made name (get_member name ms) else script_among of_bench (basic_script false name ms draft vocabularies formats)

abbrev pub is_absorbed : Text → Bool
is_absorbed name = bytes_eq name (codes "type") || bytes_eq name (codes "minItems")

abbrev pub script_by : Option ℕ → Text → Members → Draft → Vocabularies → Bool → Script FusedShape
script_by None name ms draft vocabularies formats = plain_script name ms draft vocabularies formats
script_by (Some n) name ms draft vocabularies formats =
    if is_absorbed name then then_end nothing
    else (if bytes_eq name (codes "items") then asks_fused (ArrayShape (items_before draft ms) n) else plain_script name ms draft vocabularies formats)

abbrev pub fused_script : Bool → Text → Members → Draft → Vocabularies → Bool → Script FusedShape
fused_script true name ms draft vocabularies formats = then_end nothing
fused_script false name ms draft vocabularies formats = script_by (fused_limit draft vocabularies ms) name ms draft vocabularies formats

-- The keywords that the members of a schema make. (Core 2020-12, 10.3.2.2 and 10.3.2.3)
use Rattle.std.specs.Prelude.{Bool, List, None, Option, Some, [], bytes_eq, codes, false, if◌then◌else◌, refl, true}
use Rattle.serde_json.specs.Data.{Data, Members, boolean}
use Rattle.serde_json.specs.Find.{as_object, get_member}
use Rattle.theory_definitions.specs.Instance.{Text}
use Rattle.theory_definitions.specs.Drafts.{Draft, Vocabularies}
use Rattle.theory_definitions.specs.Making.{Script, a_keyword, nothing, then_end}
use Rattle.schema_traits.specs.MakerViews.{MakesRightly}
use Rattle.keyword_makers.specs.ByValue.{values_lie_below}
use Rattle.keyword_makers.specs.Making.{asks_for, makes, malformed, only_child}
use Rattle.keyword_makers.specs.MakingLaws.{asked_rightly, either_rightly, only_rightly}
use Rattle.keyword_makers.specs.Members.{names_of, values_below}
use Rattle.standard_pattern_properties.specs.GateLaws.{gated_absorbed}
use Rattle.standard_pattern_properties.specs.GatedKeywords as gates
use Rattle.standard_pattern_properties.specs.declared.keyword.GatedKeyword.{GatedKeyword}
use Rattle.standard_pattern_properties.specs.declared.keyword.GatedKeyword.TheVariants.{AdditionalProperties, NoAdditionalProperties, PatternProperties}
use Rattle.standard_pattern_properties.specs.declared.keyword.Neighbours.{Neighbours}

-- the names of a value's members: none if the value is missing or is no object
abbrev pub names_of_object : Option Members → List Text
names_of_object None = []
names_of_object (Some ms) = names_of ms

abbrev pub names_of_value : Option Data → List Text
names_of_value None = []
names_of_value (Some d) = names_of_object (as_object d)

-- the names listed in `properties` and the patterns of `patternProperties` of the same object
abbrev pub beside_of : Members → Neighbours
beside_of ms = record { listed = names_of_value (get_member (codes "properties") ms); patterns = names_of_value (get_member (codes "patternProperties") ms) }

abbrev pub is_false : Data → Bool
is_false (boolean false) = true
is_false d = false

-- Each schema of the object is a child, in order.
abbrev pub patterns_script : Text → Data → Option Members → Script GatedKeyword
patterns_script name d None = malformed name d
patterns_script name d (Some ms) = asks_for (values_below name (names_of ms)) (a_keyword (PatternProperties (names_of ms)) [])

-- The value is the only child; the value `false` needs none.
abbrev pub others_script : Members → Text → Data → Script GatedKeyword
others_script ms name d = if is_false d then makes (NoAdditionalProperties (beside_of ms)) else only_child name (AdditionalProperties (beside_of ms))

abbrev pub value_script : Members → Text → Data → Script GatedKeyword
value_script ms name d = if bytes_eq name (codes "patternProperties") then patterns_script name d (as_object d)
    else (if bytes_eq name (codes "additionalProperties") then others_script ms name d else then_end nothing)

abbrev pub member_script : Members → Text → Option Data → Script GatedKeyword
member_script ms name None = then_end nothing
member_script ms name (Some d) = value_script ms name d

-- the same in each draft; the table owns no name
abbrev pub gated_script : Bool → Text → Members → Draft → Vocabularies → Bool → Script GatedKeyword
gated_script true name ms draft vocabularies formats = then_end nothing
gated_script false name ms draft vocabularies formats = member_script ms name (get_member name ms)

-- ---- the law of the makers

abbrev pub absorbed : GatedKeyword → List Text
absorbed = gated_absorbed gates.gates_of gates.form_of gates.names_of

abbrev pub is_whole : GatedKeyword → Bool
is_whole k = true

abbrev Rightly : Members → Script GatedKeyword → Type 0
Rightly = MakesRightly absorbed is_whole

patterns_rightly : (owner : Members) (name : Text) (d : Data) (o : Option Members) → Rightly owner (patterns_script name d o)
patterns_rightly owner name d None = λ h. refl
patterns_rightly owner name d (Some ms) = asked_rightly absorbed is_whole owner (a_keyword (PatternProperties (names_of ms)) []) (refl, (λ h. refl), tt)
    (values_below name (names_of ms)) (values_lie_below name (names_of ms))

others_rightly : (owner : Members) (name : Text) (d : Data) → Rightly owner (others_script owner name d)
others_rightly owner name d = either_rightly absorbed is_whole owner (is_false d) _ _ (refl, (λ h. refl), tt) (only_rightly absorbed is_whole owner name (AdditionalProperties (beside_of owner)) refl (λ h. refl))

value_rightly : (owner : Members) (name : Text) (d : Data) → Rightly owner (value_script owner name d)
value_rightly owner name d =
    either_rightly absorbed is_whole owner (bytes_eq name (codes "patternProperties")) _ _ (patterns_rightly owner name d (as_object d))
    (either_rightly absorbed is_whole owner (bytes_eq name (codes "additionalProperties")) _ _ (others_rightly owner name d) tt)

member_rightly : (owner : Members) (name : Text) (o : Option Data) → Rightly owner (member_script owner name o)
member_rightly owner name None = tt
member_rightly owner name (Some d) = value_rightly owner name d

pub makes_rightly : (own : Bool) (name : Text) (owner : Members) (draft : Draft) (vocabularies : Vocabularies) (formats : Bool)
    → MakesRightly absorbed is_whole owner (gated_script own name owner draft vocabularies formats)
makes_rightly true name owner draft vocabularies formats = tt
makes_rightly false name owner draft vocabularies formats = member_rightly owner name (get_member name owner)

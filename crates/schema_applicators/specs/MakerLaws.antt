-- The makers request only schemas strictly below the object, and end as a maker must.
use Rattle.std.proofs.Common.{ap}
use Rattle.std.specs.Prelude.{Bool, None, Option, Some, bytes_eq, codes, false, if◌then◌else◌, not, refl, true, ◌≡◌}
use Rattle.serde_json.specs.Written.{compact_text, has_float}
use Rattle.serde_json.specs.Data.{Data, Members}
use Rattle.serde_json.specs.Find.{get_member}
use Rattle.theory_definitions.specs.Instance.{Text}
use Rattle.theory_definitions.specs.Drafts.{Draft, Vocabularies}
use Rattle.theory_definitions.specs.Making.{Script}
use Rattle.schema_traits.specs.MakerViews.{MakesRightly}
use Rattle.keyword_authoring.specs.WayWords.{nothing_absorbed}
use Rattle.schema_applicators.specs.ApplicatorShape.{ApplicatorShape, has_all_of, has_any_of, has_if, has_not, has_one_of, is_whole}
use Rattle.keyword_makers.specs.Branches.{has_branch}
use Rattle.keyword_makers.specs.BranchLaws.{if_rightly}
use Rattle.schema_applicators.specs.Makers.{applicator_script, member_script, value_script}
use Rattle.keyword_makers.specs.MakingLaws.{either_rightly, list_rightly, member_whole, only_rightly}
use Rattle.schema_applicators.specs.Words.{way}

abbrev pub Rightly : Members → Script ApplicatorShape → Type 0
Rightly = MakesRightly (nothing_absorbed way) is_whole

either : (owner : Members) (b : Bool) (x y : Script ApplicatorShape) → Rightly owner x → Rightly owner y → Rightly owner (if b then x else y)
either = either_rightly (nothing_absorbed way) is_whole

-- the owner is the object that has the member
value_rightly : (owner : Members) (name : Text) (d : Data) → get_member name owner ≡ Some d → Rightly owner (value_script owner name d)
value_rightly owner name d here =
    either owner (bytes_eq name (codes "allOf")) _ _ (list_rightly (nothing_absorbed way) is_whole owner has_all_of name d (λ n. (refl, refl)))
    (either owner (bytes_eq name (codes "anyOf")) _ _ (list_rightly (nothing_absorbed way) is_whole owner has_any_of name d (λ n. (refl, refl)))
    (either owner (bytes_eq name (codes "oneOf")) _ _ (list_rightly (nothing_absorbed way) is_whole owner has_one_of name d (λ n. (refl, refl)))
    (either owner (bytes_eq name (codes "not")) _ _
    (only_rightly (nothing_absorbed way) is_whole owner name (has_not (compact_text d) (has_float d)) refl (λ h. ap not (member_whole name owner d here h)))
    (either owner (bytes_eq name (codes "if")) _ _ (if_rightly (nothing_absorbed way) is_whole owner has_if name (λ accepted refused. (refl, refl)) (has_branch (codes "then") owner) (has_branch (codes "else") owner)) tt))))

member_rightly : (owner : Members) (name : Text) (o : Option Data) → get_member name owner ≡ o → Rightly owner (member_script owner name o)
member_rightly owner name None here = tt
member_rightly owner name (Some d) here = value_rightly owner name d here

pub makes_rightly : (own : Bool) (name : Text) (owner : Members) (draft : Draft) (vocabularies : Vocabularies) (formats : Bool)
    → Rightly owner (applicator_script own name owner draft vocabularies formats)
makes_rightly true name owner draft vocabularies formats = tt
makes_rightly false name owner draft vocabularies formats = member_rightly owner name (get_member name owner) refl

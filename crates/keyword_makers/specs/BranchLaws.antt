-- The maker of `if` requests only what lies strictly below the object, and ends as it should.
use Rattle.std.specs.Prelude.{Bool, List, None, Option, Some, false, true, ℕ}
use Rattle.serde_json.specs.Data.{Members}
use Rattle.theory_definitions.specs.Instance.{Text}
use Rattle.schema_traits.specs.MakerViews.{MakesRightly}
use Rattle.keyword_makers.specs.Branches.{if_script}
use Rattle.keyword_makers.specs.MakingLaws.{IsPlain}

module _ {K : Type 0} (absorbed : K → List Text) (is_whole : K → Bool) where
  pub if_rightly : (owner : Members) (shape : Option ℕ → Option ℕ → K) (name : Text) → ((accepted refused : Option ℕ) → IsPlain absorbed is_whole (shape accepted refused))
      → (has_then has_else : Bool) → MakesRightly absorbed is_whole owner (if_script shape name has_then has_else)
  if_rightly owner shape name plain true true = (tt, (tt, (tt, ((plain (Some 1) (Some 2)).0, (λ h. (plain (Some 1) (Some 2)).1), tt))))
  if_rightly owner shape name plain true false = (tt, (tt, ((plain (Some 1) None).0, (λ h. (plain (Some 1) None).1), tt)))
  if_rightly owner shape name plain false true = (tt, (tt, ((plain None (Some 1)).0, (λ h. (plain None (Some 1)).1), tt)))
  if_rightly owner shape name plain false false = (tt, ((plain None None).0, (λ h. (plain None None).1), tt))

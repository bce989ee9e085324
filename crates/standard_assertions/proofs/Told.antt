-- A keyword that does not hold reports its one error; `dependentRequired` reports one for each
-- missing name.
use Rattle.std.proofs.Common.{[], Bool, false, refl, true, ◌∷◌, ◌≡◌}
use Rattle.serde_json.specs.Data.{Data}
use Rattle.theory_definitions.specs.Instance.{Subject, Text}
use Rattle.schema_traits.specs.KeywordViews.{is_nil}
use Rattle.keyword_authoring.specs.Ways.{unless}
use Rattle.standard_assertions.specs.Assertions.{Shape, error_text, error_texts}
use Rattle.standard_assertions.specs.declared.assertion.Assertion.TheVariants as assertion

told_unless : (b : Bool) (t : Text) → is_nil (unless b t) ≡ false → unless b t ≡ t ∷ []
told_unless true t h = cc
told_unless false t h = refl

pub told_once : (m : Shape) (s : Subject) → ((d : Data) → ¬ (m ≡ assertion.DependentRequired d)) → is_nil (error_texts m s) ≡ false
    → error_texts m s ≡ error_text m s ∷ []
told_once (assertion.Type i t) s other h = told_unless _ _ h
told_once (assertion.Types i ts) s other h = told_unless _ _ h
told_once (assertion.Const d) s other h = told_unless _ _ h
told_once (assertion.Enum d) s other h = told_unless _ _ h
told_once (assertion.Limit kind x) s other h = told_unless _ _ h
told_once (assertion.MultipleOf x) s other h = told_unless _ _ h
told_once (assertion.Size kind n) s other h = told_unless _ _ h
told_once (assertion.Count kind n) s other h = told_unless _ _ h
told_once assertion.UniqueItems s other h = told_unless _ _ h
told_once (assertion.DependentRequired d) s other h = absurd (other d refl)

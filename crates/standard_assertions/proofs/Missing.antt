-- Nothing is missing of two lists if nothing is missing of either.
use Rattle.std.proofs.Common.{[], refl, ◌&&◌, ◌++◌, ◌∷◌, ◌≡◌, List}
use Rattle.theory_definitions.specs.Instance.{Text}
use Rattle.schema_traits.specs.KeywordViews.{is_nil}

pub either_missing : (a b : List Text) → is_nil (a ++ b) ≡ (is_nil a && is_nil b)
either_missing [] b = refl
either_missing (k ∷ ks) b = refl

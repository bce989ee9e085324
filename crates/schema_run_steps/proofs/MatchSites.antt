-- Which sites have an instance path.
use Rattle.std.proofs.Common.{◌≡◌, Bool, None, Some, false, is_some, refl, true}
use Rattle.std.specs.Prelude.{if◌then◌else◌}
use Rattle.theory_definitions.specs.Instance.{Text}
use Rattle.theory_definitions.specs.Keywords.{MatchPoint}
use Rattle.theory_definitions.specs.Meaning.{Where}
use Rattle.theory_definitions.specs.Runs.{site_at}

some_if : {A : Type 0} (b : Bool) (a : A) → is_some (if b then Some a else None) ≡ b
some_if true a = refl
some_if false a = refl

pub shown : (x : Where) (name : Text) (m : MatchPoint) → is_some (site_at x name m).located ≡ m.located
shown x name m = some_if m.located _

-- The rest of a text after its beginning.
use Rattle.std.specs.Prelude.{MatchOption, Option, ◌++◌, ◌≡◌, ◌≢◌}
use Rattle.std.proofs.Common.{Bor}
use Rattle.theory_definitions.specs.Instance.{Text}

-- the result is the rest of a text after this beginning; `None` if the text does not begin with it
abbrev pub IsRest : Text → Text → Option (Bor Text) → Type 0
IsRest start whole o = MatchOption o ((rest : Text) → whole ≢ start ++ rest) (λ rest. whole ≡ start ++ rest.now)

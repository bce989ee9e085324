-- A weaker claim about the value of a call, with the same claim about its error.
use Rattle.std.specs.Prelude.{MatchResult, Result, Ok, Err}

module _ {T E : Type 0} where
  -- the claim about the value is weaker, that about the error the same
  pub value_says : (r : Result T E) (P P' : T → Type 0) (Q : E → Type 0) → ((x : T) → P x → P' x) → MatchResult r P Q → MatchResult r P' Q
  value_says (Ok x) P P' Q f h = f x h
  value_says (Err e) P P' Q f h = h

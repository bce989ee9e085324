-- What is added after what was added before.
use Rattle.std.proofs.Common.{◌≡◌, ◌++◌, ◌∙◌, Err, IfOk, Ok, Result, ap, append_assoc, if◌then◌else◌, is_ok}
use Rattle.theory_definitions.specs.Instance.{Text}

pub behind : (old mid added : Text) → mid ≡ old ++ added → (more : Text) → mid ++ more ≡ old ++ (added ++ more)
behind old mid added e more = ap (λ s. s ++ more) e ∙ append_assoc old added more

-- the result of a push that succeeds
pub pushed_whole : {T E : Type 0} (r : Result T E) (new old added : Text) → new ≡ (if is_ok r then old ++ added else old) → IfOk r (λ _. new ≡ old ++ added)
pushed_whole (Ok t) new old added e = e
pushed_whole (Err f) new old added e = tt

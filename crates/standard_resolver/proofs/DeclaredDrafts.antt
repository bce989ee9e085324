-- A refusal of a value, if it has the text that is meant in any case.
use Rattle.std.proofs.Common.{Err, Ok, Result, refl, ◌≡◌}
use Rattle.std.specs.Prelude.{MatchResult, string_bytes}
use Rattle.serde_json.specs.Data.{Data}
use Rattle.theory_definitions.specs.Instance.{Text}
use Rattle.schema_traits.specs.ResolverViews.{Refuses, RefusesValue}
use Rattle.schema_traits.specs.Showing.{Agrees}
use Rattle.schema_traits.specs.declared.resolver.LookupError.{LookupError}
use Rattle.schema_traits.specs.declared.resolver.LookupError.TheVariants.{OutOfMemory, Refused}

from_refuses : {A : Type 0} (v : Data) (meant : Result A Text) (e : LookupError) → Refuses meant e → RefusesValue v meant e
from_refuses v meant (Refused t) h = (string_bytes t, h, λ whole. refl)
from_refuses v meant OutOfMemory h = tt

pub refuses_value : {A B : Type 0} (seen : A → B) (v : Data) (meant : Result B Text) (result : Result A LookupError) → Agrees seen result meant
    → MatchResult result (λ a. meant ≡ Ok (seen a)) (RefusesValue v meant)
refuses_value seen v meant (Ok a) h = h
refuses_value seen v meant (Err e) h = from_refuses v meant e h

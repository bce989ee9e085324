-- Results, compared with the definitions.
pub use Rattle.schema_reports.specs.Showing.{Shows, Yields}
use Rattle.std.specs.Prelude.{MatchResult, Ok, Result, ◌≡◌}
use Rattle.theory_definitions.specs.Instance.{Text}
use Rattle.schema_traits.specs.ResolverViews.{Refuses}
use Rattle.schema_traits.specs.declared.resolver.LookupError.{LookupError}

-- the result corresponds to what the definitions find, and a refusal has their text
abbrev pub Agrees : {A B : Type 0} → (A → B) → Result A LookupError → Result B Text → Type 0
Agrees seen result meant = MatchResult result (λ a. meant ≡ Ok (seen a)) (Refuses meant)

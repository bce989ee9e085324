-- The verdict in a first error and in a list of errors: there is none exactly if the call says "valid".
use Rattle.std.proofs.Common.{false, refl, true, Bool, List, [], map, ℕ, ◌∷◌, ◌≡◌}
use Rattle.std.specs.Prelude.{None, Option, Some, is_none, option_map}
use Rattle.theory_definitions.specs.Cover.{Sense, iter_errors, validate}
use Rattle.theory_meaning.specs.Deciding.{none_where_accepted}
use Rattle.theory_meaning.specs.Headline.{VerdictSays}
use Rattle.theory_meaning.specs.Members.{Follows}
use Rattle.schema_reports.specs.ReportViews.{error_of}
use Rattle.theory_definitions.specs.Reports.{Error}
use Rattle.unfinished_search.specs.SharedResults.{is_empty}
use Rattle.schema_reports.specs.declared.reports.ValidationError.{ValidationError}
use Rattle.theory_meaning.proofs.Sentences.{listed_none}
use Rattle.schema_compiled.specs.Spoken.{ErrorsAnswered, FirstAnswered}

none_mapped : (f : ValidationError → Error) (o : Option ValidationError) → is_none o ≡ true → option_map f o ≡ None
none_mapped f None e = refl
none_mapped f (Some x) e = absurd (cc e)

none_from : (f : ValidationError → Error) (o : Option ValidationError) → option_map f o ≡ None → is_none o ≡ true
none_from f None e = refl
none_from f (Some x) e = absurd (cc e)

some_there : (f : ValidationError → Error) (o : Option ValidationError) (e : Error) → option_map f o ≡ Some e → is_none o ≡ false
some_there f None e is = absurd (cc is)
some_there f (Some x) e is = refl

empty_mapped : (f : ValidationError → Error) (es : List ValidationError) → is_empty es ≡ true → map f es ≡ []
empty_mapped f [] e = refl
empty_mapped f (x ∷ es) e = absurd (cc e)

empty_from : (f : ValidationError → Error) (es : List ValidationError) → map f es ≡ [] → is_empty es ≡ true
empty_from f [] e = refl
empty_from f (x ∷ es) e = absurd (cc e)

one_there : (f : ValidationError → Error) (es : List ValidationError) (e : Error) → map f es ≡ e ∷ [] → is_empty es ≡ false
one_there f [] e is = absurd (cc is)
one_there f (x ∷ es) e is = refl

module _ (v : Sense) (most : ℕ) (follows : Follows v) where
  pub first_verdict : (texts : Bool) (o : Option ValidationError) → FirstAnswered v most texts o → VerdictSays v most validate (is_none o)
  first_verdict false o says = says.verdict
  first_verdict true o says = (
    λ decides.
        let none = none_where_accepted v follows most (option_map (error_of true) o) says decides in
        (λ e. none.0 (none_mapped (error_of true) o e), λ each. none_from (error_of true) o (none.1 each)),
    λ undecided. let (e, fails, is) = says.1 undecided in some_there (error_of true) o e is,
  )

  pub errors_verdict : (texts : Bool) (es : List ValidationError) → ErrorsAnswered v most texts es → VerdictSays v most iter_errors (is_empty es)
  errors_verdict false es says = says.verdict
  errors_verdict true es says = (
    λ decides.
        let none = listed_none v iter_errors follows most (map (error_of true) es) (says.0 decides) in
        (λ e. none.0 (empty_mapped (error_of true) es e), λ each. empty_from (error_of true) es (none.1 each)),
    λ undecided. let (e, fails, is) = says.1 undecided in one_there (error_of true) es e is,
  )

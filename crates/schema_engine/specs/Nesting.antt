-- The limit on how many targets of references are compiled one inside another changes no answer.
-- Two validators that mean the plain meaning of one schema, as builds with any two limits return
-- them, and whose calls have the same limit on runs, answer every instance alike if no chain of
-- references returns: the verdicts are equal, and so are the errors and the evaluations. Only if
-- both calls return the failure of an unfinished match, may each show it at a site of its own. If
-- one may make more runs than the other, it decides what the other decides, and answers alike
-- there. Nor does either limit change whether a schema builds by the same meta validators, except
-- for lack of memory.
use Rattle.std.specs.Prelude.{Bool, List, None, Option, Some, [], false, is_none, map, option_map, true, ℕ, ◌∷◌, ◌≡◌, ◌≤◌, ◌⊎◌}
use Rattle.serde_json.specs.Data.{Data}
use Rattle.theory_definitions.specs.Cover.{Call, Decides, Sense, branch_at, evaluate, is_valid, iter_errors, validate}
use Rattle.theory_meaning.specs.Headline.{IsFailure, OneFailure}
use Rattle.theory_definitions.specs.Keywords.{Answer}
use Rattle.schema_reports.specs.ReportViews.{error_of}
use Rattle.theory_definitions.specs.Reports.{Error, Unit_}
use Rattle.unfinished_search.specs.SharedResults.{is_empty}
use Rattle.schema_reports.specs.UnitViews.{unit_of}
use Rattle.schema_reports.specs.declared.evaluation.EvaluationNode.{EvaluationNode}
use Rattle.schema_reports.specs.declared.reports.ValidationError.{ValidationError}
use Rattle.schema_traits.specs.declared.keyword.Validate.{Ghosts as KeywordMembers}
use Rattle.schema_traits.specs.declared.matcher.Matcher.{Ghosts as MatcherMembers}
use Rattle.schema_traits.specs.declared.resolver.Resolver.{Ghosts as ResolverMembers}
use Rattle.schema_traits.specs.declared.table.KeywordTable.{Ghosts as TableMembers}
use Rattle.schema_output.specs.ErrorUnits.{errors_unit}
use Rattle.schema_keys.specs.Checking.{MetaChecks}
use Rattle.schema_keys.specs.declared.error.BuildError.{BuildError}
use Rattle.schema_keys.specs.declared.error.BuildError.TheVariants.{OutOfMemory}
use Rattle.schema_compiled.specs.Asked.{DecidesInEverySense, ErrorsInEverySense, EvaluatesInEverySense, FirstInEverySense, UnitsInEverySense}
use Rattle.schema_validator.specs.Called.{BuildRefused, HasPlainUnits, MeansPlainly, PlainlyOf, SchemaBuilds}
use Rattle.schema_validator.specs.Checked.{PassesCheck}
use Rattle.schema_compiled.specs.Evaluated.{verdict_in}
use Rattle.schema_validator.specs.Handed.{Handed, Options, handed, limited}
use Rattle.schema_compiled.specs.Program.{Program}

-- ---- two answers about one sense

-- answers of calls with this limit on runs
module _ (v : Sense) (most : ℕ) where
  -- there is a first error, and it is the failure
  abbrev pub FirstFails : Option Error → Type 0
  FirstFails o = (e : Error) × IsFailure v most validate e × (o ≡ Some e)

  -- both are none, or the two errors are equal in place, paths, absolute location, keyword and
  -- text; or both are the failure
  abbrev pub SameFirst : Option Error → Option Error → Type 0
  SameFirst o o' = (o ≡ o') ⊎ (FirstFails o × FirstFails o')

  -- the errors of two calls of one kind are equal in all of these, in one order; or both calls
  -- return the failure alone
  abbrev pub SameErrors : Call → List Error → List Error → Type 0
  SameErrors call es es' = (es ≡ es') ⊎ (OneFailure v most call es × OneFailure v most call es')

  -- if texts are not covered: both are none, or neither is; both are the failure if the call does
  -- not decide; and they are equal but for the texts if the first run meets no unfinished match
  pub record FirstsAgreeUnspoken (o o' : Option ValidationError) : Type 0 where
    pub verdict : is_none o ≡ is_none o'
    pub undecided : ¬ (Decides v most validate) → FirstFails (option_map (error_of true) o) × FirstFails (option_map (error_of true) o')
    pub alone : branch_at v validate [] ≡ None → option_map (error_of false) o ≡ option_map (error_of false) o'

  -- the same of all errors
  pub record ErrorsAgreeUnspoken (es es' : List ValidationError) : Type 0 where
    pub verdict : is_empty es ≡ is_empty es'
    pub undecided : ¬ (Decides v most iter_errors) → OneFailure v most iter_errors (map (error_of true) es) × OneFailure v most iter_errors (map (error_of true) es')
    pub alone : branch_at v iter_errors [] ≡ None → map (error_of false) es ≡ map (error_of false) es'

  -- two first errors agree, whether texts are covered or not
  abbrev pub FirstsAgree : Bool → Option ValidationError → Option ValidationError → Type 0
  FirstsAgree true o o' = SameFirst (option_map (error_of true) o) (option_map (error_of true) o')
  FirstsAgree false o o' = FirstsAgreeUnspoken o o'

  -- two lists of errors agree, whether texts are covered or not
  abbrev pub ErrorsAgree : Bool → List ValidationError → List ValidationError → Type 0
  ErrorsAgree true es es' = SameErrors iter_errors (map (error_of true) es) (map (error_of true) es')
  ErrorsAgree false es es' = ErrorsAgreeUnspoken es es'

  -- the units are made of the evaluation's one failure
  pub record IsOfFailure (texts : Bool) (u : Unit_) : Type 0 where
    pub error : ValidationError
    pub fails : IsFailure v most evaluate (error_of true error)
    pub made : u ≡ errors_unit (error_of texts error ∷ [])

  -- the units are equal; or both are made of the one failure
  abbrev pub SameUnits : Unit_ → Unit_ → Type 0
  SameUnits u u' = (u ≡ u') ⊎ (IsOfFailure true u × IsOfFailure true u')

  -- two evaluations agree: the verdicts are equal; both are made of the failure if the call does
  -- not decide; and if the first run meets an unfinished match and texts are covered, the units are
  -- equal, or both are made of the failure
  pub record EvaluationsAgree (texts : Bool) (u u' : EvaluationNode) : Type 0 where
    pub verdict : verdict_in texts u ≡ verdict_in texts u'
    pub undecided : ¬ (Decides v most evaluate) → IsOfFailure texts (unit_of texts u) × IsOfFailure texts (unit_of texts u')
    pub apart : texts ≡ true → ¬ (branch_at v evaluate [] ≡ None) → SameUnits (unit_of true u) (unit_of true u')

-- ---- two validators of one schema

-- the members of the traits, and the resolver, the table and the matcher of both builds
module _ {A State S T C Maker Run K M : Type 0} (resolvers : ResolverMembers A State S) (tables : TableMembers T C Maker Run K) (keywords : KeywordMembers C Run K) (matchers : MatcherMembers M) (resolver : A) (table : T) (matcher : M) where
  -- the parts of both builds, as data
  abbrev pub handed_to_both : Handed S K (Run × Answer) C M
  handed_to_both = handed resolvers tables keywords matchers resolver table matcher

  -- a fact about two validators that mean the plain meaning of one schema, by options that differ
  -- in their limits on nested targets alone, and whose calls have the same limit on runs
  abbrev OfBoth : (Options → Data → Program C M → Program C M → Type 0) → Type 0
  OfBoth says = (options : Options) (schema : Data) (nested nested' : ℕ) (p p' : Program C M) → p.runs ≡ p'.runs
      → MeansPlainly handed_to_both (limited options p.runs nested) schema p → MeansPlainly handed_to_both (limited options p'.runs nested') schema p' → says options schema p p'

  -- two verdicts of one instance are equal
  abbrev pub VerdictsAgree : Type 0
  VerdictsAgree = OfBoth (λ options schema p p'. (instance : Data) (b b' : Bool)
      → DecidesInEverySense keywords matchers p instance b → DecidesInEverySense keywords matchers p' instance b'
      → PlainlyOf handed_to_both options schema instance (λ texts v. b ≡ b'))

  -- two first errors of one instance agree
  abbrev pub FirstErrorsAgree : Type 0
  FirstErrorsAgree = OfBoth (λ options schema p p'. (instance : Data) (o o' : Option ValidationError)
      → FirstInEverySense keywords matchers p instance o → FirstInEverySense keywords matchers p' instance o'
      → PlainlyOf handed_to_both options schema instance (λ texts v. FirstsAgree v p.runs texts o o'))

  -- two lists of all errors of one instance agree
  abbrev pub AllErrorsAgree : Type 0
  AllErrorsAgree = OfBoth (λ options schema p p'. (instance : Data) (es es' : List ValidationError)
      → ErrorsInEverySense keywords matchers p instance es → ErrorsInEverySense keywords matchers p' instance es'
      → PlainlyOf handed_to_both options schema instance (λ texts v. ErrorsAgree v p.runs texts es es'))

  -- two evaluations of one instance agree
  abbrev pub EvaluationsOfBoth : Type 0
  EvaluationsOfBoth = OfBoth (λ options schema p p'. (instance : Data) (u u' : EvaluationNode)
      → EvaluatesInEverySense keywords matchers p instance u → EvaluatesInEverySense keywords matchers p' instance u'
      → PlainlyOf handed_to_both options schema instance (λ texts v. EvaluationsAgree v p.runs texts u u'))

  -- if both validators have the plain units too, the units of two evaluations are equal if the
  -- first run meets no unfinished match
  abbrev pub UnitsOfBoth : Type 0
  UnitsOfBoth = OfBoth (λ options schema p p'. HasPlainUnits handed_to_both options schema p → HasPlainUnits handed_to_both options schema p'
      → (instance : Data) (u u' : EvaluationNode) → UnitsInEverySense keywords matchers p instance u → UnitsInEverySense keywords matchers p' instance u'
      → PlainlyOf handed_to_both options schema instance (λ texts v. branch_at v evaluate [] ≡ None → unit_of texts u ≡ unit_of texts u'))

  -- ---- two validators of one schema: the second may make more runs than the first, and decides
  -- alike what the first decides

  abbrev OfSmallerAndLarger : (Options → Data → Program C M → Program C M → Type 0) → Type 0
  OfSmallerAndLarger says = (options : Options) (schema : Data) (nested nested' : ℕ) (p p' : Program C M) → p.runs ≤ p'.runs
      → MeansPlainly handed_to_both (limited options p.runs nested) schema p → MeansPlainly handed_to_both (limited options p'.runs nested') schema p' → says options schema p p'

  abbrev pub LargerVerdicts : Type 0
  LargerVerdicts = OfSmallerAndLarger (λ options schema p p'. (instance : Data) (b b' : Bool)
      → DecidesInEverySense keywords matchers p instance b → DecidesInEverySense keywords matchers p' instance b'
      → PlainlyOf handed_to_both options schema instance (λ texts v. Decides v p.runs is_valid → Decides v p'.runs is_valid × (b ≡ b')))

  abbrev pub LargerFirstErrors : Type 0
  LargerFirstErrors = OfSmallerAndLarger (λ options schema p p'. (instance : Data) (o o' : Option ValidationError)
      → FirstInEverySense keywords matchers p instance o → FirstInEverySense keywords matchers p' instance o'
      → PlainlyOf handed_to_both options schema instance (λ texts v. Decides v p.runs validate → Decides v p'.runs validate × FirstsAgree v p.runs texts o o'))

  abbrev pub LargerErrors : Type 0
  LargerErrors = OfSmallerAndLarger (λ options schema p p'. (instance : Data) (es es' : List ValidationError)
      → ErrorsInEverySense keywords matchers p instance es → ErrorsInEverySense keywords matchers p' instance es'
      → PlainlyOf handed_to_both options schema instance (λ texts v. Decides v p.runs iter_errors → Decides v p'.runs iter_errors × ErrorsAgree v p.runs texts es es'))

  abbrev pub LargerEvaluations : Type 0
  LargerEvaluations = OfSmallerAndLarger (λ options schema p p'. (instance : Data) (u u' : EvaluationNode)
      → EvaluatesInEverySense keywords matchers p instance u → EvaluatesInEverySense keywords matchers p' instance u'
      → PlainlyOf handed_to_both options schema instance (λ texts v. Decides v p.runs evaluate → Decides v p'.runs evaluate × EvaluationsAgree v p.runs texts u u'))

  -- ---- two builds of one schema

  -- if a build succeeds, whatever its limits on runs and on nested targets, another by options that
  -- differ in these alone and with the same meta validators is refused only for lack of memory
  abbrev pub BuildsAgree : Type 0
  BuildsAgree = (options : Options) (schema : Data) (runs runs' nested nested' : ℕ) (refuses : MetaChecks) (e : BuildError)
      → SchemaBuilds handed_to_both (limited options runs nested) schema → PassesCheck handed_to_both.resolver refuses (limited options runs nested) schema
      → BuildRefused handed_to_both refuses (limited options runs' nested') schema e → e ≡ OutOfMemory

-- The calls about a schema and an instance agree with each other, even if chains of references
-- return. Each call compiles nodes of its own, and its answer is what these say from some depth on.
-- But all nodes that are compiled from one schema by the same options and the same limit on nested
-- targets have one sense and the same units, so the answers of calls about one schema and one
-- instance are about one sense. The calls of one validator agree too, and a call that is made twice
-- answers alike.
use Rattle.std.specs.Prelude.{Bool, List, None, Option, [], is_none, ℕ, ◌≡◌}
use Rattle.serde_json.specs.Data.{Data}
use Rattle.theory_definitions.specs.Cover.{Decides, Sense, branch_at, evaluate, is_valid, iter_errors, validate}
use Rattle.theory_definitions.specs.Guarded.{guarded_sense, guarded_units}
use Rattle.theory_definitions.specs.Matching.{Assumptions, completion_of}
use Rattle.theory_meaning.specs.Numbered.{subject_in}
use Rattle.theory_definitions.specs.Reports.{Unit_}
use Rattle.unfinished_search.specs.SharedResults.{is_empty}
use Rattle.schema_reports.specs.UnitViews.{unit_of}
use Rattle.schema_reports.specs.declared.evaluation.EvaluationNode.{EvaluationNode}
use Rattle.schema_reports.specs.declared.reports.ValidationError.{ValidationError}
use Rattle.schema_node_table.specs.NodeTable.{numbered}
use Rattle.schema_traits.specs.declared.keyword.Validate.{Ghosts as KeywordMembers}
use Rattle.schema_traits.specs.declared.matcher.Matcher.{Ghosts as MatcherMembers}
use Rattle.schema_compiled.specs.Asked.{DecidesFromSomeDepth, ErrorsFromSomeDepth, EvaluatesFromSomeDepth, FirstFromSomeDepth, UnitsFromSomeDepth}
use Rattle.schema_validator.specs.Called.{DecidesGuardedly, ErrorsGuardedly, EvaluatesGuardedly, FirstGuardedly, IsCompiledFrom, UnitsGuardedly}
use Rattle.schema_validator.specs.Handed.{Handed, Options}
use Rattle.schema_compiled.specs.Evaluated.{verdict_in}
use Rattle.schema_compiled.specs.Program.{FromSomeDepth, Program, Speaks}
use Rattle.schema_engine.specs.Nesting.{ErrorsAgree, EvaluationsAgree, FirstsAgree}

-- the parts
module _ {S K R C M : Type 0} (h : Handed S K R C M) where
  -- ---- two validators that are compiled from one schema

  module _ (instance : Data) (texts : Bool) where
    -- texts of errors are covered in what a validator says of the instance
    abbrev pub SpeaksOf : Program C M → Type 0
    SpeaksOf p = Speaks h.shape h.words h.is_whole h.matching p instance texts

    -- what its root's node says of the instance, with questions of a depth
    abbrev pub sense_of : Program C M → ℕ → Sense
    sense_of p n = guarded_sense (h.words texts) (h.matching p.matcher) (numbered h.shape p.nodes) (subject_in instance) n p.root

    -- the units that it has then, under these assumed outcomes of unfinished matches
    abbrev pub units_under : Program C M → Assumptions → ℕ → Unit_
    units_under p as' n = guarded_units (h.words texts) (h.matching p.matcher) (numbered h.shape p.nodes) (subject_in instance) (completion_of as') n p.root [] [] []

    -- two validators speak alike of an instance: texts are covered for the one only if they are for
    -- the other, and at every depth their roots' nodes have one sense and the same units
    pub record SpeakAlike (p p' : Program C M) : Type 0 where
      pub speaks : SpeaksOf p → SpeaksOf p'
      pub senses : (n : ℕ) → sense_of p n ≡ sense_of p' n
      pub units : (as' : Assumptions) (n : ℕ) → units_under p as' n ≡ units_under p' as' n

  -- validators that are compiled from one schema, by the same options and the same limit on nested
  -- targets, speak alike of every instance
  abbrev pub OneSense : Type 0
  OneSense = (options : Options) (schema : Data) (nested : ℕ) (p p' : Program C M)
      → IsCompiledFrom h options schema nested p → IsCompiledFrom h options schema nested p'
      → (instance : Data) (texts : Bool) → SpeakAlike instance texts p p'

  -- ---- two calls of one schema and one instance, by the same options

  -- a fact about calls
  abbrev OfCalls : (Options → Data → Data → Type 0) → Type 0
  OfCalls says = (options : Options) (schema instance : Data) → says options schema instance

  -- a fact about what nodes compiled from the schema say from some depth on, whichever these are
  abbrev pub OfAllCompiled : Options → Data → Data → (Bool → Sense → Type 0) → Type 0
  OfAllCompiled options schema instance fact = (p : Program C M) → IsCompiledFrom h options schema options.nested p
      → FromSomeDepth h.shape h.words h.is_whole h.matching p instance fact

  -- two verdicts of `is_valid` are equal
  abbrev pub OneVerdict : Type 0
  OneVerdict = OfCalls (λ options schema instance. (b b' : Bool)
      → DecidesGuardedly h options schema instance b → DecidesGuardedly h options schema instance b' → b ≡ b')

  -- two first errors of `validate` agree as those of two validators do: both are none, or the
  -- errors are equal; or both are the failure; and if texts are not covered, what is said then
  abbrev pub OneFirstError : Type 0
  OneFirstError = OfCalls (λ options schema instance. (o o' : Option ValidationError)
      → FirstGuardedly h options schema instance o → FirstGuardedly h options schema instance o'
      → OfAllCompiled options schema instance (λ texts v. FirstsAgree v options.runs texts o o'))

  -- two lists of errors of `iter_errors` agree as those of two validators do: they are equal; or
  -- both are the failure alone; and if texts are not covered, what is said then
  abbrev pub OneErrorList : Type 0
  OneErrorList = OfCalls (λ options schema instance. (es es' : List ValidationError)
      → ErrorsGuardedly h options schema instance es → ErrorsGuardedly h options schema instance es'
      → OfAllCompiled options schema instance (λ texts v. ErrorsAgree v options.runs texts es es'))

  -- two evaluations agree as those of two validators do: their verdicts are equal; both are made of
  -- the failure if the call does not decide; and if the first run meets an unfinished match and
  -- texts are covered, the units are equal, or both are made of the failure
  abbrev pub OneEvaluation : Type 0
  OneEvaluation = OfCalls (λ options schema instance. (u u' : EvaluationNode)
      → EvaluatesGuardedly h options schema instance u → EvaluatesGuardedly h options schema instance u'
      → OfAllCompiled options schema instance (λ texts v. EvaluationsAgree v options.runs texts u u'))

  -- two evaluations have the same units if the first run meets no unfinished match
  abbrev pub OneTree : Type 0
  OneTree = OfCalls (λ options schema instance. (u u' : EvaluationNode)
      → UnitsGuardedly h options schema instance u → UnitsGuardedly h options schema instance u'
      → OfAllCompiled options schema instance (λ texts v. branch_at v evaluate [] ≡ None → unit_of texts u ≡ unit_of texts u'))

  -- if both calls decide, `is_valid` returns true exactly if `validate` returns none
  abbrev pub TrueIffNone : Type 0
  TrueIffNone = OfCalls (λ options schema instance. (b : Bool) (o : Option ValidationError)
      → DecidesGuardedly h options schema instance b → FirstGuardedly h options schema instance o
      → OfAllCompiled options schema instance (λ texts v. Decides v options.runs is_valid → Decides v options.runs validate → b ≡ is_none o))

  -- if both calls decide, `is_valid` returns true exactly if `iter_errors` returns the empty list
  abbrev pub TrueIffEmpty : Type 0
  TrueIffEmpty = OfCalls (λ options schema instance. (b : Bool) (es : List ValidationError)
      → DecidesGuardedly h options schema instance b → ErrorsGuardedly h options schema instance es
      → OfAllCompiled options schema instance (λ texts v. Decides v options.runs is_valid → Decides v options.runs iter_errors → b ≡ is_empty es))

  -- if both calls decide, `validate` returns none exactly if `iter_errors` returns the empty list
  abbrev pub NoneIffEmpty : Type 0
  NoneIffEmpty = OfCalls (λ options schema instance. (o : Option ValidationError) (es : List ValidationError)
      → FirstGuardedly h options schema instance o → ErrorsGuardedly h options schema instance es
      → OfAllCompiled options schema instance (λ texts v. Decides v options.runs validate → Decides v options.runs iter_errors → is_none o ≡ is_empty es))

  -- if both calls decide, `is_valid` returns true exactly if the verdict of `evaluate` is "valid"
  abbrev pub TrueIffValid : Type 0
  TrueIffValid = OfCalls (λ options schema instance. (b : Bool) (u : EvaluationNode)
      → DecidesGuardedly h options schema instance b → EvaluatesGuardedly h options schema instance u
      → OfAllCompiled options schema instance (λ texts v. Decides v options.runs is_valid → Decides v options.runs evaluate → b ≡ verdict_in texts u))

  -- if both calls decide, `validate` returns none exactly if the verdict of `evaluate` is "valid"
  abbrev pub NoneIffValid : Type 0
  NoneIffValid = OfCalls (λ options schema instance. (o : Option ValidationError) (u : EvaluationNode)
      → FirstGuardedly h options schema instance o → EvaluatesGuardedly h options schema instance u
      → OfAllCompiled options schema instance (λ texts v. Decides v options.runs validate → Decides v options.runs evaluate → is_none o ≡ verdict_in texts u))

  -- if both calls decide, `iter_errors` returns the empty list exactly if the verdict of `evaluate`
  -- is "valid"
  abbrev pub EmptyIffValid : Type 0
  EmptyIffValid = OfCalls (λ options schema instance. (es : List ValidationError) (u : EvaluationNode)
      → ErrorsGuardedly h options schema instance es → EvaluatesGuardedly h options schema instance u
      → OfAllCompiled options schema instance (λ texts v. Decides v options.runs iter_errors → Decides v options.runs evaluate → is_empty es ≡ verdict_in texts u))

-- ---- the four calls of one validator

-- of the answers of calls, any two that decide have one verdict: true, none, the empty list, and
-- "valid"
pub record OneVerdictOfAll (v : Sense) (most : ℕ) (texts : Bool) (b : Bool) (o : Option ValidationError) (es : List ValidationError) (u : EvaluationNode) : Type 0 where
  pub true_none : Decides v most is_valid → Decides v most validate → b ≡ is_none o
  pub true_empty : Decides v most is_valid → Decides v most iter_errors → b ≡ is_empty es
  pub true_valid : Decides v most is_valid → Decides v most evaluate → b ≡ verdict_in texts u
  pub none_empty : Decides v most validate → Decides v most iter_errors → is_none o ≡ is_empty es
  pub none_valid : Decides v most validate → Decides v most evaluate → is_none o ≡ verdict_in texts u
  pub empty_valid : Decides v most iter_errors → Decides v most evaluate → is_empty es ≡ verdict_in texts u

-- from some depth on, the answers of a validator's calls about an instance have one verdict
abbrev pub ValidatorCallsAgree : {C Run K M : Type 0} → KeywordMembers C Run K → MatcherMembers M → Type 0
ValidatorCallsAgree {C} {Run} {K} {M} keywords matchers = (p : Program C M) (instance : Data) (b : Bool) (o : Option ValidationError) (es : List ValidationError) (u : EvaluationNode)
    → DecidesFromSomeDepth keywords matchers p instance b → FirstFromSomeDepth keywords matchers p instance o
    → ErrorsFromSomeDepth keywords matchers p instance es → EvaluatesFromSomeDepth keywords matchers p instance u
    → FromSomeDepth keywords.shape keywords.words keywords.is_whole matchers.matching p instance (λ texts v. OneVerdictOfAll v p.runs texts b o es u)

-- ---- one call of one validator and one instance, made twice

module _ {C Run K M : Type 0} (keywords : KeywordMembers C Run K) (matchers : MatcherMembers M) where
  -- a fact about a validator and an instance
  abbrev OfValidators : (Program C M → Data → Type 0) → Type 0
  OfValidators says = (p : Program C M) (instance : Data) → says p instance

  -- a fact about what the validator's nodes say of the instance from some depth on
  abbrev pub NodesSay : Program C M → Data → (Bool → Sense → Type 0) → Type 0
  NodesSay p instance fact = FromSomeDepth keywords.shape keywords.words keywords.is_whole matchers.matching p instance fact

  -- two verdicts of `is_valid` are equal
  abbrev pub VerdictAgain : Type 0
  VerdictAgain = OfValidators (λ p instance. (b b' : Bool)
      → DecidesFromSomeDepth keywords matchers p instance b → DecidesFromSomeDepth keywords matchers p instance b' → b ≡ b')

  -- two first errors of `validate` are both none, or equal in place, paths, absolute location,
  -- keyword and text; or both are the failure, each perhaps at a site of its own; and if texts are
  -- not covered, what is said for that case
  abbrev pub FirstErrorAgain : Type 0
  FirstErrorAgain = OfValidators (λ p instance. (o o' : Option ValidationError)
      → FirstFromSomeDepth keywords matchers p instance o → FirstFromSomeDepth keywords matchers p instance o'
      → NodesSay p instance (λ texts v. FirstsAgree v p.runs texts o o'))

  -- two lists of errors of `iter_errors` are equal in all of these, in one order; or both are the
  -- failure alone, each perhaps at a site of its own; and if texts are not covered, what is said
  -- for that case
  abbrev pub ErrorListAgain : Type 0
  ErrorListAgain = OfValidators (λ p instance. (es es' : List ValidationError)
      → ErrorsFromSomeDepth keywords matchers p instance es → ErrorsFromSomeDepth keywords matchers p instance es'
      → NodesSay p instance (λ texts v. ErrorsAgree v p.runs texts es es'))

  -- two evaluations have one verdict; both are made of the failure if the call does not decide; and
  -- if the first run meets an unfinished match and texts are covered, the units are equal, or both
  -- are made of the failure
  abbrev pub EvaluationAgain : Type 0
  EvaluationAgain = OfValidators (λ p instance. (u u' : EvaluationNode)
      → EvaluatesFromSomeDepth keywords matchers p instance u → EvaluatesFromSomeDepth keywords matchers p instance u'
      → NodesSay p instance (λ texts v. EvaluationsAgree v p.runs texts u u'))

  -- two evaluations have the same units if the first run meets no unfinished match
  abbrev pub UnitsAgain : Type 0
  UnitsAgain = OfValidators (λ p instance. (u u' : EvaluationNode)
      → UnitsFromSomeDepth keywords matchers p instance u → UnitsFromSomeDepth keywords matchers p instance u'
      → NodesSay p instance (λ texts v. branch_at v evaluate [] ≡ None → unit_of texts u ≡ unit_of texts u'))

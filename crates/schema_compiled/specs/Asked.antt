-- The answers of a validator's calls: the sentences that their clauses cite. They are those of
-- `Answers`, `Program` and `Spoken`, over the members of the keyword type's and the matcher type's
-- traits.
use Rattle.std.specs.Prelude.{Bool, IfOk, List, Option, Result, true, ◌≡◌}
use Rattle.serde_json.specs.Data.{Data}
use Rattle.theory_definitions.specs.Cover.{is_valid}
use Rattle.theory_meaning.specs.Headline.{VerdictSays}
use Rattle.theory_definitions.specs.Keywords as wanted
use Rattle.theory_definitions.specs.Matching.{Assumptions}
use Rattle.theory_definitions.specs.Unfinished.{Remembered}
use Rattle.schema_reports.specs.declared.evaluation.EvaluationNode.{EvaluationNode}
use Rattle.schema_reports.specs.declared.reports.ValidationError.{ValidationError}
use Rattle.schema_traits.specs.declared.keyword.Mode.{Mode}
use Rattle.schema_traits.specs.declared.keyword.Reply.{Reply}
use Rattle.schema_traits.specs.declared.keyword.Validate.{Ghosts as KeywordMembers}
use Rattle.schema_traits.specs.declared.matcher.Matcher.{Ghosts as MatcherMembers}
use Rattle.schema_compiled.specs.Answers.{MeetsMatches, SaysErrors, SaysFirst, SaysReply, SaysUnit, SaysVerdict}
use Rattle.schema_compiled.specs.Evaluated.{EvaluationAnswered, UnitsAnswered}
use Rattle.schema_compiled.specs.Program.{FromSomeDepth, HasUnits, OfEveryEvaluation, OfEverySense, Program}
use Rattle.schema_compiled.specs.Spoken.{EachIsGiven, ErrorsAnswered, FirstAnswered, FirstIsGiven}

-- this holds if the answer is `true`
abbrev pub IfYes : {E : Type 0} → Result Bool E → Type 0 → Type 0
IfYes result Holds = IfOk result (λ b. b ≡ true → Holds)

-- C is a keyword of the code, K what is known of it, M a matcher of the code
module _ {C Run K M : Type 0} (keywords : KeywordMembers C Run K) (matchers : MatcherMembers M) (p : Program C M) (instance : Data) where
  -- ---- one run of the root's node, under what is assumed of unfinished matches

  -- its reply is the one of the guarded meaning at every great enough depth, in the requested mode
  abbrev pub RunReplies : Mode → Assumptions → Reply → Type 0
  RunReplies = SaysReply keywords.shape keywords.words keywords.is_whole matchers.matching p instance

  -- so is its verdict
  abbrev pub RunDecides : Assumptions → Bool → Type 0
  RunDecides = SaysVerdict keywords.shape keywords.words keywords.is_whole matchers.matching p instance

  -- so are all its errors
  abbrev pub RunListsErrors : Assumptions → List ValidationError → Type 0
  RunListsErrors = SaysErrors keywords.shape keywords.words keywords.is_whole matchers.matching p instance

  -- so is its first error, or none
  abbrev pub RunFindsFirst : Assumptions → Option ValidationError → Type 0
  RunFindsFirst = SaysFirst keywords.shape keywords.words keywords.is_whole matchers.matching p instance

  -- so is its unit
  abbrev pub RunGivesUnit : Assumptions → EvaluationNode → Type 0
  RunGivesUnit = SaysUnit keywords.shape keywords.words keywords.is_whole matchers.matching p instance

  -- what it remembers of the unfinished matches that it met
  abbrev pub RunMeets : wanted.Mode → Remembered → Remembered → Type 0
  RunMeets = MeetsMatches keywords.shape keywords.words keywords.is_whole matchers.matching p instance

  -- ---- a call, by what the nodes say from some depth on, even if chains of references return

  -- the verdict is that of all outcomes of the unfinished matches, and "invalid" past the
  -- validator's limit on runs
  abbrev pub DecidesFromSomeDepth : Bool → Type 0
  DecidesFromSomeDepth valid = FromSomeDepth keywords.shape keywords.words keywords.is_whole matchers.matching p instance (λ texts v. VerdictSays v p.runs is_valid valid)

  -- the error is the first that all outcomes share, or reports such a match
  abbrev pub FirstFromSomeDepth : Option ValidationError → Type 0
  FirstFromSomeDepth o = FromSomeDepth keywords.shape keywords.words keywords.is_whole matchers.matching p instance (λ texts v. FirstAnswered v p.runs texts o)

  -- the errors are those that all outcomes share, or one that reports such a match
  abbrev pub ErrorsFromSomeDepth : List ValidationError → Type 0
  ErrorsFromSomeDepth es = FromSomeDepth keywords.shape keywords.words keywords.is_whole matchers.matching p instance (λ texts v. ErrorsAnswered v p.runs texts es)

  -- the verdict is that of all outcomes, and "invalid" past the validator's limit on runs; if a
  -- match stays unfinished, the units are those of errors
  abbrev pub EvaluatesFromSomeDepth : EvaluationNode → Type 0
  EvaluatesFromSomeDepth u = FromSomeDepth keywords.shape keywords.words keywords.is_whole matchers.matching p instance (λ texts v. EvaluationAnswered v p.runs texts u)

  -- if no match stays unfinished, the units are those that the nodes have, under every outcome
  abbrev pub UnitsFromSomeDepth : EvaluationNode → Type 0
  UnitsFromSomeDepth u = HasUnits keywords.shape keywords.words keywords.is_whole matchers.matching p instance u

  -- each error is one that the nodes produce under some outcome of the unfinished matches, so that
  -- it points where these point; or the call returns its one failure
  abbrev pub ErrorsPointAsNodes : List ValidationError → Type 0
  ErrorsPointAsNodes es = FromSomeDepth keywords.shape keywords.words keywords.is_whole matchers.matching p instance (λ texts v. EachIsGiven v p.runs texts es)

  -- so is the first error, if there is one
  abbrev pub FirstPointsAsNodes : Option ValidationError → Type 0
  FirstPointsAsNodes o = FromSomeDepth keywords.shape keywords.words keywords.is_whole matchers.matching p instance (λ texts v. FirstIsGiven v p.runs texts o)

  -- ---- the same of every sense that the nodes mean; one exists if no chain of references returns

  -- the verdict is the sense's
  abbrev pub DecidesInEverySense : Bool → Type 0
  DecidesInEverySense valid = OfEverySense keywords.shape keywords.words keywords.is_whole matchers.matching p instance (λ texts v. VerdictSays v p.runs is_valid valid)

  -- the first error, or none, is the sense's
  abbrev pub FirstInEverySense : Option ValidationError → Type 0
  FirstInEverySense o = OfEverySense keywords.shape keywords.words keywords.is_whole matchers.matching p instance (λ texts v. FirstAnswered v p.runs texts o)

  -- the verdict is the sense's, and so are the errors that units are made of
  abbrev pub EvaluatesInEverySense : EvaluationNode → Type 0
  EvaluatesInEverySense u = OfEverySense keywords.shape keywords.words keywords.is_whole matchers.matching p instance (λ texts v. EvaluationAnswered v p.runs texts u)

  -- if no match stays unfinished, the units are those that the nodes have beside the sense, under
  -- every outcome
  abbrev pub UnitsInEverySense : EvaluationNode → Type 0
  UnitsInEverySense u = OfEveryEvaluation keywords.shape keywords.words keywords.is_whole matchers.matching p instance (λ texts v units. UnitsAnswered v texts units u)

  -- the errors are the sense's
  abbrev pub ErrorsInEverySense : List ValidationError → Type 0
  ErrorsInEverySense es = OfEverySense keywords.shape keywords.words keywords.is_whole matchers.matching p instance (λ texts v. ErrorsAnswered v p.runs texts es)

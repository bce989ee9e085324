-- If each keyword is monotone, the answer of a call about a schema and an instance is the greatest
-- solution of the schema: whether the largest set of pairs, of a target and of a place, that
-- supports itself holds the root's target at the root place. This holds even if chains of
-- references return, for two validators of one schema, and if the matcher finishes every match.
use Rattle.std.specs.Prelude.{Bool, List, Option, is_none, true, ℕ, ◌↔◌, ◌≡◌, ◌≤◌}
use Rattle.serde_json.specs.Data.{Data}
use Rattle.theory_definitions.specs.Matching.{Matcher}
use Rattle.theory_definitions.specs.Keywords.{Answer, Keywords}
use Rattle.theory_definitions.specs.Plan.{Key}
use Rattle.theory_definitions.specs.Cover.{Call, Decides, Sense, evaluate, is_valid, iter_errors, validate}
use Rattle.theory_definitions.specs.Guarded.{guarded_sense}
use Rattle.theory_meaning.specs.Members.{Finishes}
use Rattle.theory_meaning.specs.Numbered.{subject_in}
use Rattle.theory_meaning.specs.Root.{IsRoot}
use Rattle.theory_fixed_points.specs.Solutions as by_targets
use Rattle.theory_fixed_points.specs.Solutions.{AcceptsEach, EachIsMonotone}
use Rattle.unfinished_search.specs.SharedResults.{is_empty}
use Rattle.schema_reports.specs.declared.evaluation.EvaluationNode.{EvaluationNode}
use Rattle.schema_reports.specs.declared.reports.ValidationError.{ValidationError}
use Rattle.schema_traits.specs.declared.keyword.Validate.{Ghosts as KeywordMembers}
use Rattle.schema_traits.specs.declared.matcher.Matcher.{Ghosts as MatcherMembers}
use Rattle.schema_traits.specs.declared.resolver.Resolver.{Ghosts as ResolverMembers}
use Rattle.schema_traits.specs.declared.table.KeywordTable.{Ghosts as TableMembers}
use Rattle.schema_node_table.specs.NodeTable.{numbered}
use Rattle.schema_validator.specs.Called.{PointingOf}
use Rattle.schema_validator.specs.Greatest.{AcceptsAsSchema, DecidesAccepted, NodesAccept, NodesAreMonotone, SaysAccepted, parts}
use Rattle.schema_validator.specs.Handed.{Handed, Options}
use Rattle.schema_compiled.specs.Evaluated.{verdict_in}
use Rattle.schema_compiled.specs.Program.{Program, Speaks}
use Rattle.schema_engine.specs.Nesting.{handed_to_both}

-- ---- a validator

module _ {K S R M : Type 0} (shape : K → S) (words : Bool → Keywords S R) (matching : M → Matcher) (p : Program K M) (texts : Bool) where
  -- what its nodes say of an instance, with questions of a depth
  abbrev pub sense_at : Data → ℕ → Sense
  sense_at instance n = guarded_sense (words texts) (matching p.matcher) (numbered shape p.nodes) (subject_in instance) n p.root

-- if the matcher finishes every match, each call decides: then the answer is as said, without a
-- depth
abbrev pub FinishingAccepts : {C Run K M : Type 0} → KeywordMembers C Run K → MatcherMembers M → Type 0
FinishingAccepts {C} {M = M} keywords matchers = (p : Program C M) (instance : Data) → Finishes (matchers.matching p.matcher) → 1 ≤ p.runs → (call : Call) (answer : Bool → Bool)
    → SaysAccepted keywords matchers p instance call answer → (texts : Bool) → Speaks keywords.shape keywords.words keywords.is_whole matchers.matching p instance texts
    → NodesAreMonotone keywords.shape keywords.words p texts → (answer texts ≡ true) ↔ NodesAccept keywords.shape keywords.words matchers.matching p texts instance

-- ---- a call of schema and instance

-- the parts, the options, the schema, and the instance
module _ {S K R C M : Type 0} (h : Handed S K R C M) (options : Options) (schema instance : Data) where
  -- if each keyword of what the root reaches is monotone and the call decides, its answer is
  -- "valid" exactly if, under every outcome of the matches, the largest set of targets and places
  -- that supports itself holds the root's target at the root place; of nodes compiled from the
  -- schema, from some depth on
  abbrev pub SaysGreatest : Call → (Bool → Bool) → Type 0
  SaysGreatest call answer = PointingOf h options schema instance
      (λ w root v texts. EachIsMonotone w root → by_targets.SaysGreatest w root instance v options.runs call (answer texts ≡ true))

  -- the verdict is "valid"
  abbrev pub DecidesGreatest : Bool → Type 0
  DecidesGreatest valid = SaysGreatest is_valid (λ texts. valid)

  -- there is no first error
  abbrev pub FirstGreatest : Option ValidationError → Type 0
  FirstGreatest o = SaysGreatest validate (λ texts. is_none o)

  -- there are no errors
  abbrev pub ErrorsGreatest : List ValidationError → Type 0
  ErrorsGreatest es = SaysGreatest iter_errors (λ texts. is_empty es)

  -- the evaluation's verdict is "valid"
  abbrev pub EvaluatesGreatest : EvaluationNode → Type 0
  EvaluatesGreatest u = SaysGreatest evaluate (λ texts. verdict_in texts u)

-- ---- two validators of one schema

-- the members of the traits, and the resolver, the table and the matcher of both builds
module _ {A State S T C Maker Run K M : Type 0} (resolvers : ResolverMembers A State S) (tables : TableMembers T C Maker Run K) (keywords : KeywordMembers C Run K) (matchers : MatcherMembers M) (resolver : A) (table : T) (matcher : M) where
  abbrev both : Handed S K (Run × Answer) C M
  both = handed_to_both resolvers tables keywords matchers resolver table matcher

  -- of two validators that accept as one schema does: a fact about what both say, at each great
  -- enough depth, if each keyword of what the root reaches is monotone and both calls decide
  abbrev WhereBothDecide : Options → Data → Data → Program C M → Call → Program C M → Call → (Bool → Type 0) → Type 0
  WhereBothDecide options schema instance p call p' call' fact = (texts : Bool) (root : Key S) → IsRoot (parts both options texts) schema root → EachIsMonotone (parts both options texts) root
      → Speaks keywords.shape keywords.words keywords.is_whole matchers.matching p instance texts → Speaks keywords.shape keywords.words keywords.is_whole matchers.matching p' instance texts
      → (deep : ℕ) × ((n : ℕ) → deep ≤ n → Decides (sense_at keywords.shape keywords.words matchers.matching p texts instance n) p.runs call
      → Decides (sense_at keywords.shape keywords.words matchers.matching p' texts instance n) p'.runs call' → fact texts)

  -- any two calls have the same verdict: `is_valid` by returning true, `validate` none,
  -- `iter_errors` the empty list, and `evaluate` a valid unit
  abbrev pub GreatestAnswersAgree : Type 0
  GreatestAnswersAgree = (options : Options) (schema : Data) (p p' : Program C M) → AcceptsAsSchema both options schema p → AcceptsAsSchema both options schema p' → (instance : Data)
      → (call call' : Call) (answer answer' : Bool → Bool) → SaysAccepted keywords matchers p instance call answer → SaysAccepted keywords matchers p' instance call' answer'
      → WhereBothDecide options schema instance p call p' call' (λ texts. answer texts ≡ answer' texts)

  -- two verdicts are equal
  abbrev pub GreatestVerdictsAgree : Type 0
  GreatestVerdictsAgree = (options : Options) (schema : Data) (p p' : Program C M) → AcceptsAsSchema both options schema p → AcceptsAsSchema both options schema p' → (instance : Data)
      → (b b' : Bool) → DecidesAccepted keywords matchers p instance b → DecidesAccepted keywords matchers p' instance b'
      → WhereBothDecide options schema instance p is_valid p' is_valid (λ texts. b ≡ b')

  -- of one validator whose matcher finishes every match: the verdict of a call is "valid" exactly
  -- if the greatest solution of the schema accepts
  abbrev pub FinishingGreatest : Type 0
  FinishingGreatest = (options : Options) (schema : Data) (p : Program C M) → AcceptsAsSchema both options schema p → (instance : Data) → Finishes (matchers.matching p.matcher) → 1 ≤ p.runs
      → (call : Call) (answer : Bool → Bool) → SaysAccepted keywords matchers p instance call answer
      → (texts : Bool) (root : Key S) → IsRoot (parts both options texts) schema root → EachIsMonotone (parts both options texts) root
      → Speaks keywords.shape keywords.words keywords.is_whole matchers.matching p instance texts → (answer texts ≡ true) ↔ AcceptsEach (parts both options texts) root instance

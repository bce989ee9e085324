-- If each keyword is monotone, a validator answers by the greatest solution of its nodes, and they
-- accept as the key or the schema does that they are compiled from: the largest set of pairs, of a
-- node or a target and of a place, that supports itself holds the root at the root place. This
-- holds even if chains of references return.
use Rattle.std.specs.Prelude.{Bool, List, Option, [], is_none, length, true, ◌↔◌, ◌≡◌}
use Rattle.serde_json.specs.Data.{Data}
use Rattle.theory_definitions.specs.Matching.{Completion, Matcher}
use Rattle.theory_definitions.specs.Keywords.{Keywords}
use Rattle.theory_definitions.specs.Parts.{Parts}
use Rattle.theory_definitions.specs.Plan.{Key}
use Rattle.theory_definitions.specs.Cover.{Call, Decides, evaluate, is_valid, iter_errors, validate}
use Rattle.theory_meaning.specs.Numbered.{subject_in}
use Rattle.theory_meaning.specs.Root.{IsRoot}
use Rattle.theory_fixed_points.specs.Solutions.{AcceptsEach, EachIsMonotone}
use Rattle.theory_fixed_points.specs.NodesSay.{AreMonotone, NodeAcceptsGreatest}
use Rattle.unfinished_search.specs.SharedResults.{is_empty}
use Rattle.schema_reports.specs.declared.evaluation.EvaluationNode.{EvaluationNode}
use Rattle.schema_reports.specs.declared.reports.ValidationError.{ValidationError}
use Rattle.schema_traits.specs.declared.keyword.Validate.{Ghosts as KeywordMembers}
use Rattle.schema_traits.specs.declared.matcher.Matcher.{Ghosts as MatcherMembers}
use Rattle.schema_node_table.specs.NodeTable.{numbered}
use Rattle.schema_validator.specs.Handed.{Handed, Options, parts_of}
use Rattle.schema_compiled.specs.Evaluated.{verdict_in}
use Rattle.schema_compiled.specs.Program.{FromSomeDepth, Program}

-- ---- a validator

-- each keyword of its nodes is monotone
abbrev pub NodesAreMonotone : {K S R M : Type 0} → (K → S) → (Bool → Keywords S R) → Program K M → Bool → Type 0
NodesAreMonotone shape words p texts = AreMonotone (words texts) (numbered shape p.nodes) (length p.nodes)

module _ {K S R M : Type 0} (shape : K → S) (words : Bool → Keywords S R) (matching : M → Matcher) (p : Program K M) (texts : Bool) where
  -- under every outcome of the matches, the largest set of numbers and places that supports itself
  -- holds the root's number at the root place
  abbrev pub NodesAccept : Data → Type 0
  NodesAccept instance = (c : Completion) → NodeAcceptsGreatest (words texts) (matching p.matcher) (numbered shape p.nodes) (subject_in instance) c (length p.nodes) p.root []

-- ---- a call of a validator

-- C is a keyword of the code, K what is known of it, M a matcher of the code
module _ {C Run K M : Type 0} (keywords : KeywordMembers C Run K) (matchers : MatcherMembers M) (p : Program C M) (instance : Data) where
  -- if each keyword of the nodes is monotone and the call decides, its answer is "valid" exactly if
  -- the nodes accept; from some depth on
  abbrev pub SaysAccepted : Call → (Bool → Bool) → Type 0
  SaysAccepted call answer = FromSomeDepth keywords.shape keywords.words keywords.is_whole matchers.matching p instance
      (λ texts v. NodesAreMonotone keywords.shape keywords.words p texts → Decides v p.runs call
      → (answer texts ≡ true) ↔ NodesAccept keywords.shape keywords.words matchers.matching p texts instance)

  -- the verdict is "valid"
  abbrev pub DecidesAccepted : Bool → Type 0
  DecidesAccepted valid = SaysAccepted is_valid (λ texts. valid)

  -- there is no first error
  abbrev pub FirstAccepted : Option ValidationError → Type 0
  FirstAccepted o = SaysAccepted validate (λ texts. is_none o)

  -- there are no errors
  abbrev pub ErrorsAccepted : List ValidationError → Type 0
  ErrorsAccepted es = SaysAccepted iter_errors (λ texts. is_empty es)

  -- the evaluation's verdict is "valid"
  abbrev pub EvaluatesAccepted : EvaluationNode → Type 0
  EvaluatesAccepted u = SaysAccepted evaluate (λ texts. verdict_in texts u)

-- ---- a build

-- the parts, and the options
module _ {S K R C M : Type 0} (h : Handed S K R C M) (options : Options) where
  abbrev pub parts : Bool → Parts S K R
  parts texts = parts_of h.resolver h.table h.matcher (h.words texts) options

  -- of a validator and the key that it is compiled from: if each keyword of what the key reaches is
  -- monotone, so is each of the nodes; and if each of these is, the nodes accept an instance
  -- exactly if, under every outcome of the matches, the largest set of targets and places that
  -- supports itself holds the key's target at the root place
  pub record AcceptAlike (texts : Bool) (key : Key S) (p : Program C M) : Type 0 where
    pub monotone : EachIsMonotone (parts texts) key → NodesAreMonotone h.shape h.words p texts
    pub accepts : NodesAreMonotone h.shape h.words p texts → (instance : Data) → NodesAccept h.shape h.words h.matching p texts instance ↔ AcceptsEach (parts texts) key instance

  abbrev pub AcceptsAsKey : Key S → Program C M → Type 0
  AcceptsAsKey key p = (texts : Bool) → AcceptAlike texts key p

  module _ (schema : Data) where
    -- the same of every root key of the schema
    abbrev pub AcceptsAsSchema : Program C M → Type 0
    AcceptsAsSchema p = (texts : Bool) (root : Key S) → IsRoot (parts texts) schema root → AcceptAlike texts root p

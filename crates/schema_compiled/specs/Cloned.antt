-- The answers of a validator's clone: at each depth its nodes say of an instance what the
-- original's say. So an answer is possible for the clone exactly if it is possible for the
-- original.
use Rattle.std.specs.Prelude.{Bool, List, Option, [], ℕ, ◌≡◌, ◌↔◌}
use Rattle.serde_json.specs.Data.{Data}
use Rattle.theory_definitions.specs.Cover.{Sense}
use Rattle.theory_definitions.specs.Guarded.{guarded_sense, guarded_units}
use Rattle.theory_definitions.specs.Matching.{Completion}
use Rattle.theory_meaning.specs.Numbered.{subject_in}
use Rattle.theory_definitions.specs.Reports.{Unit_}
use Rattle.schema_reports.specs.declared.evaluation.EvaluationNode.{EvaluationNode}
use Rattle.schema_reports.specs.declared.reports.ValidationError.{ValidationError}
use Rattle.schema_node_table.specs.NodeTable.{numbered}
use Rattle.schema_traits.specs.declared.keyword.Validate.{Ghosts as KeywordMembers}
use Rattle.schema_traits.specs.declared.matcher.Matcher.{Ghosts as MatcherMembers}
use Rattle.schema_compiled.specs.Asked.{DecidesFromSomeDepth, ErrorsFromSomeDepth, EvaluatesFromSomeDepth, FirstFromSomeDepth, UnitsFromSomeDepth}
use Rattle.schema_compiled.specs.Program.{Program, Speaks}

-- C is a keyword of the code, K what is known of it, M a matcher of the code
module _ {C Run K M : Type 0} (keywords : KeywordMembers C Run K) (matchers : MatcherMembers M) where
  -- whether texts of errors are covered, in what a validator says of an instance
  abbrev SpeaksOf : Program C M → Data → Bool → Type 0
  SpeaksOf p instance texts = Speaks keywords.shape keywords.words keywords.is_whole matchers.matching p instance texts

  -- what its root's node says of the instance, with questions of a depth
  abbrev sense_of : Program C M → Data → Bool → ℕ → Sense
  sense_of p instance texts n = guarded_sense (keywords.words texts) (matchers.matching p.matcher) (numbered keywords.shape p.nodes) (subject_in instance) n p.root

  -- the unit of its root's node, under an outcome of each unfinished match
  abbrev unit_at : Program C M → Data → Bool → ℕ → Completion → Unit_
  unit_at p instance texts n c = guarded_units (keywords.words texts) (matchers.matching p.matcher) (numbered keywords.shape p.nodes) (subject_in instance) c n p.root [] [] []

  -- two validators say the same of every instance, and their calls have the same limits on runs, on
  -- steps and on depth: texts are covered for both or for neither, and at each depth their roots' nodes have
  -- one sense, and one unit under each outcome of the unfinished matches
  pub record SaySame (p p' : Program C M) : Type 0 where
    pub runs : p.runs ≡ p'.runs
    pub work : p.work ≡ p'.work
    pub depth : p.depth ≡ p'.depth
    pub speaks : (instance : Data) (texts : Bool) → SpeaksOf p instance texts ↔ SpeaksOf p' instance texts
    pub senses : (instance : Data) (texts : Bool) (n : ℕ) → sense_of p instance texts n ≡ sense_of p' instance texts n
    pub units : (instance : Data) (texts : Bool) (n : ℕ) (c : Completion) → unit_at p instance texts n c ≡ unit_at p' instance texts n c

  -- an answer to a call of the one is an answer to that call of the other
  pub record AnswerSame (p p' : Program C M) : Type 0 where
    pub verdict : (instance : Data) (valid : Bool) → DecidesFromSomeDepth keywords matchers p instance valid ↔ DecidesFromSomeDepth keywords matchers p' instance valid
    pub first : (instance : Data) (o : Option ValidationError) → FirstFromSomeDepth keywords matchers p instance o ↔ FirstFromSomeDepth keywords matchers p' instance o
    pub errors : (instance : Data) (es : List ValidationError) → ErrorsFromSomeDepth keywords matchers p instance es ↔ ErrorsFromSomeDepth keywords matchers p' instance es
    pub evaluation : (instance : Data) (u : EvaluationNode) → EvaluatesFromSomeDepth keywords matchers p instance u ↔ EvaluatesFromSomeDepth keywords matchers p' instance u
    pub units : (instance : Data) (u : EvaluationNode) → UnitsFromSomeDepth keywords matchers p instance u ↔ UnitsFromSomeDepth keywords matchers p' instance u

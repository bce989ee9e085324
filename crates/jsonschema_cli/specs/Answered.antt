-- The outcome of an instance, by what a call of the validator says of it. (Core 2020-12, 12.4)
use Rattle.std.specs.Prelude.{Bool, List, None, Option, Some, false, is_none, length, nat_eq, true, ℕ, ◌≡◌}
use Rattle.serde_json.specs.View.{view}
use Rattle.serde_json.specs.declared.value.Value.{Value}
use Rattle.theory_definitions.specs.Reports.{report_of}
use Rattle.schema_reports.specs.UnitViews.{unit_of}
use Rattle.schema_reports.specs.declared.evaluation.EvaluationNode.{EvaluationNode}
use Rattle.schema_reports.specs.declared.reports.ValidationError.{ValidationError}
use Rattle.schema_traits.specs.declared.keyword.Validate.{Ghosts as KeywordMembers}
use Rattle.schema_traits.specs.declared.matcher.Matcher.{Ghosts as MatcherMembers}
use Rattle.schema_compiled.specs.Asked.{DecidesFromSomeDepth, ErrorsFromSomeDepth, EvaluatesFromSomeDepth, FirstFromSomeDepth}
use Rattle.schema_compiled.specs.Program.{Program}
use Rattle.schema_compiled.specs.Stopped.{IsOneOf}
use Rattle.schema_compiled.specs.declared.stopping.CallLimit.{CallLimit}
use Rattle.command_line.specs.declared.options.Output.{Output}
use Rattle.command_line.specs.declared.options.Output.TheVariants as output
use Rattle.command_line.specs.declared.outcomes.Outcome.{Outcome}
use Rattle.command_line.specs.declared.outcomes.Outcome.TheVariants as outcome

-- the calls of the validator have a limit, on steps or on depth
pub record HasLimit {C M : Type 0} (p : Program C M) : Type 0 where
  pub limit : CallLimit
  pub is : IsOneOf p.work p.depth limit

-- an instance has no answer only at a limit of the validator; else the outcome is that of a
-- verdict of which this holds
abbrev pub AnswersBy : {C M : Type 0} → Program C M → (Bool → Type 0) → Outcome → Type 0
AnswersBy p Holds outcome.Accepted = Holds true
AnswersBy p Holds outcome.Refused = Holds false
AnswersBy p Holds outcome.Unanswered = HasLimit p

module _ {C Run K M : Type 0} (keywords : KeywordMembers C Run K) (matchers : MatcherMembers M) (p : Program C M) (instance : Value) where
  -- the verdict is what the nodes decide
  pub record HasVerdict (accepted : Bool) : Type 0 where
    pub valid : Bool
    pub is : DecidesFromSomeDepth keywords matchers p (view instance) valid
    pub same : accepted ≡ valid

  -- there are errors, or none, as the nodes have them
  pub record HasErrors (accepted : Bool) : Type 0 where
    pub errors : List ValidationError
    pub are : ErrorsFromSomeDepth keywords matchers p (view instance) errors
    pub none : accepted ≡ nat_eq (length errors) 0

  -- there is a first error, or none, as the nodes have it
  pub record HasFirst (accepted : Bool) : Type 0 where
    pub first : Option ValidationError
    pub is : FirstFromSomeDepth keywords matchers p (view instance) first
    pub none : accepted ≡ is_none first

  -- the outermost unit is valid or not, as the nodes have it
  pub record HasUnit (accepted : Bool) : Type 0 where
    pub unit : EvaluationNode
    pub is : EvaluatesFromSomeDepth keywords matchers p (view instance) unit
    pub valid : (texts : Bool) → accepted ≡ (report_of (unit_of texts unit)).valid

  -- the verdict is that of the call that the output asks for: as text, all errors of a file and the
  -- first error of a line
  abbrev pub HasAnswer : Output → Option ℕ → Bool → Type 0
  HasAnswer output.Text None = HasErrors
  HasAnswer output.Text (Some line) = HasFirst
  HasAnswer output.Flag line = HasVerdict
  HasAnswer output.List line = HasUnit
  HasAnswer output.Basic line = HasUnit
  HasAnswer output.Hierarchical line = HasUnit

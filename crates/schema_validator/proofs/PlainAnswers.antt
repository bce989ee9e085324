-- What a validator says of every sense that its nodes mean is said of the plain meaning of schema and parts, with the units that
-- they have too.
use Rattle.std.proofs.Common.{ℕ, ◌+◌, Bool, [], ◌∙◌, ap, arith}
use Rattle.serde_json.specs.Data.{Data}
use Rattle.theory_definitions.specs.Matching.{Completion, Matcher}
use Rattle.theory_definitions.specs.Resolving.{Resolver}
use Rattle.theory_definitions.specs.Making.{Table}
use Rattle.theory_definitions.specs.Keywords.{Keywords}
use Rattle.theory_definitions.specs.Cover.{Sense, branch_at, evaluate, plain}
use Rattle.theory_meaning.specs.Headline.{Plainly, PlainlyWithUnits}
use Rattle.theory_definitions.specs.Parts.{Parts}
use Rattle.theory_definitions.specs.Reports.{Unit_}
use Rattle.theory_definitions.specs.Units.{plain_units}
use Rattle.schema_reports.specs.declared.evaluation.EvaluationNode.{EvaluationNode}
use Rattle.schema_compiled.specs.Evaluated.{UnitsAnswered}
use Rattle.schema_compiled.specs.Program.{HasUnits, OfEveryEvaluation, OfEverySense, Program}
use Rattle.schema_validator.specs.Handed.{Options, parts_of}
use Rattle.schema_validator.specs.Promised.{HasSchemasUnits, MeansSchema, OfSchema}

-- units that are those of the nodes at every great enough depth are those that the nodes have beside every sense
pub units_in_every_sense : {C K R M : Type 0} (shape : C → K) (words : Bool → Keywords K R) (is_whole : K → Bool) (matching : M → Matcher) (p : Program C M) (instance : Data) (u : EvaluationNode)
    → HasUnits shape words is_whole matching p instance u → OfEveryEvaluation shape words is_whole matching p instance (λ texts v units. UnitsAnswered v texts units u)
units_in_every_sense shape words is_whole matching p instance u has = λ texts speaks v m units h none c.
    let d = has texts speaks in
    let n : ℕ = d.0 + (m.0 + h.0) in
    d.1 n (omega arith) (ap (λ (s : Sense). branch_at s evaluate []) (m.1 n (omega arith)) ∙ none) c ∙ h.1 n (omega arith) c

module _ {S K R C M : Type 0} (resolver : Resolver S) (table : Table K) (matcher : Matcher) (words : Bool → Keywords K R) (options : Options) (schema : Data) (shape : C → K) (is_whole : K → Bool) (matching : M → Matcher) (p : Program C M) where
  pub plainly_from : (instance : Data) (fact : Bool → Sense → Type 0) → MeansSchema resolver table matcher words options schema shape is_whole matching p → OfEverySense shape words is_whole matching p instance fact
      → OfSchema resolver table matcher words options schema instance (λ texts w root. Plainly w root instance (fact texts))
  plainly_from instance fact means senses = λ texts root is_root speaks.
      let meant = means instance texts root is_root speaks in
      λ no_return keys reach n deep. senses texts meant.0 (plain (parts_of resolver table matcher (words texts) options) instance n root) (meant.1 no_return keys reach n deep)

  pub plainly_with_units : (instance : Data) (fact : Bool → Sense → (Completion → Unit_) → Type 0) → MeansSchema resolver table matcher words options schema shape is_whole matching p
      → HasSchemasUnits resolver table matcher words options schema shape is_whole matching p → OfEveryEvaluation shape words is_whole matching p instance fact
      → OfSchema resolver table matcher words options schema instance (λ texts w root. PlainlyWithUnits w root instance (fact texts))
  plainly_with_units instance fact means units evaluations = λ texts root is_root speaks.
      let meant = means instance texts root is_root speaks in
      let w : Parts S K R = parts_of resolver table matcher (words texts) options in
      λ no_return keys reach n deep. evaluations texts meant.0 (plain w instance n root) (meant.1 no_return keys reach n deep) (λ c. plain_units w instance c n root [] []) (units instance texts root is_root speaks no_return keys reach n deep)

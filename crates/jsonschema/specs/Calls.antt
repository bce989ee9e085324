-- The promises of a call of schema and instance in one, by the standard's parts and the default
-- options: there is a validator of the schema, and the answer is what its call says. (Core 2020-12,
-- 4.3.5 and 12)
use Rattle.std.specs.Prelude.{Bool, List, Result}
use Rattle.serde_json.specs.declared.value.Value.{Value}
use Rattle.schema_reports.specs.declared.evaluation.EvaluationNode.{EvaluationNode}
use Rattle.schema_reports.specs.declared.reports.ValidationError.{ValidationError}
use Rattle.schema_traits.specs.declared.keyword.Validate.{Ghosts as KeywordMembers}
use Rattle.schema_traits.specs.declared.resolver.Resolver.{Ghosts as ResolverMembers}
use Rattle.schema_traits.specs.declared.table.KeywordTable.{Ghosts as TableMembers}
use Rattle.pattern_matcher.specs.declared.treatment.Treatment.{Treatment}
use Rattle.schema_compiled.specs.Asked.{DecidesFromSomeDepth, DecidesInEverySense, ErrorsFromSomeDepth, ErrorsInEverySense, ErrorsPointAsNodes}
use Rattle.schema_compiled.specs.Asked.{EvaluatesFromSomeDepth, EvaluatesInEverySense, FirstFromSomeDepth, FirstInEverySense, FirstPointsAsNodes, UnitsFromSomeDepth, UnitsInEverySense}
use Rattle.schema_compiled.specs.Program.{Program}
use Rattle.schema_validator.specs.CallWords.{AreSoOrGiveLimit, AreSoOrTell, EachBorrows, FirstBorrows, FirstIsSoOrTells, IsSoOrNo}
use Rattle.schema_validator.specs.Greatest.{DecidesAccepted, ErrorsAccepted, EvaluatesAccepted, FirstAccepted}
use Rattle.standard_resolver.specs.ResolverDocuments.{HeldDocuments}
use Rattle.standard_keywords.specs.declared.table.StandardTable.{StandardTable}
use Rattle.standard_meta.specs.DraftMeanings.{regexes}
use Rattle.jsonschema.specs.BuildOptions.{no_options}
use Rattle.jsonschema.specs.Checked.{IsValidatorOf}

module _ {State S C Maker Run K : Type 0} (resolvers : ResolverMembers HeldDocuments State S) (tables : TableMembers StandardTable C Maker Run K)
    (keywords : KeywordMembers C Run K) (schema instance : Value) where
  -- the verdict is that of a validator of the schema
  pub record IsVerdictOf (valid : Bool) : Type 0 where
    pub validator : Program C Treatment
    pub built : IsValidatorOf resolvers tables keywords no_options schema validator
    pub depth : IsSoOrNo keywords regexes validator instance DecidesFromSomeDepth valid
    pub senses : IsSoOrNo keywords regexes validator instance DecidesInEverySense valid
    pub greatest : IsSoOrNo keywords regexes validator instance DecidesAccepted valid

  -- the first error, or none, is that of a validator of the schema
  pub record IsFirstErrorOf (r : Result (Unit {0}) ValidationError) : Type 0 where
    pub validator : Program C Treatment
    pub built : IsValidatorOf resolvers tables keywords no_options schema validator
    pub depth : FirstIsSoOrTells keywords regexes validator instance FirstFromSomeDepth r
    pub senses : FirstIsSoOrTells keywords regexes validator instance FirstInEverySense r
    pub greatest : FirstIsSoOrTells keywords regexes validator instance FirstAccepted r
    pub points : FirstIsSoOrTells keywords regexes validator instance FirstPointsAsNodes r
    pub borrows : FirstBorrows instance r

  -- the errors, in order, are those of a validator of the schema
  pub record AreErrorsOf (es : List ValidationError) : Type 0 where
    pub validator : Program C Treatment
    pub built : IsValidatorOf resolvers tables keywords no_options schema validator
    pub depth : AreSoOrTell keywords regexes validator instance ErrorsFromSomeDepth es
    pub senses : AreSoOrTell keywords regexes validator instance ErrorsInEverySense es
    pub greatest : AreSoOrTell keywords regexes validator instance ErrorsAccepted es
    pub points : AreSoOrTell keywords regexes validator instance ErrorsPointAsNodes es
    pub borrows : EachBorrows instance es

  -- the evaluation is that of a validator of the schema
  pub record IsEvaluationOf (u : EvaluationNode) : Type 0 where
    pub validator : Program C Treatment
    pub built : IsValidatorOf resolvers tables keywords no_options schema validator
    pub depth : AreSoOrGiveLimit keywords regexes validator instance EvaluatesFromSomeDepth u
    pub senses : AreSoOrGiveLimit keywords regexes validator instance EvaluatesInEverySense u
    pub greatest : AreSoOrGiveLimit keywords regexes validator instance EvaluatesAccepted u
    pub units : AreSoOrGiveLimit keywords regexes validator instance UnitsFromSomeDepth u
    pub plain : AreSoOrGiveLimit keywords regexes validator instance UnitsInEverySense u

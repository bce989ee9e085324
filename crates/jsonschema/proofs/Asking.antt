-- Answers of calls of schema and instance in one, put together from a build and a validator's call.
use Rattle.std.proofs.Common.{Err, IfOk, Ok, Result}
use Rattle.std.specs.Prelude.{Bool, List}
use Rattle.serde_json.specs.declared.value.Value.{Value}
use Rattle.pattern_matcher.specs.declared.treatment.Treatment.{Treatment}
use Rattle.schema_compiled.specs.Asked.{DecidesFromSomeDepth, DecidesInEverySense, ErrorsFromSomeDepth, ErrorsInEverySense, ErrorsPointAsNodes}
use Rattle.schema_compiled.specs.Asked.{EvaluatesFromSomeDepth, EvaluatesInEverySense, FirstFromSomeDepth, FirstInEverySense, FirstPointsAsNodes, UnitsFromSomeDepth, UnitsInEverySense}
use Rattle.schema_compiled.specs.Program.{Program}
use Rattle.schema_reports.specs.declared.evaluation.EvaluationNode.{EvaluationNode}
use Rattle.schema_reports.specs.declared.reports.ValidationError.{ValidationError}
use Rattle.schema_traits.specs.declared.keyword.Validate.{Ghosts as KeywordMembers}
use Rattle.schema_traits.specs.declared.resolver.Resolver.{Ghosts as ResolverMembers}
use Rattle.schema_traits.specs.declared.table.KeywordTable.{Ghosts as TableMembers}
use Rattle.schema_validator.specs.CallWords.{AreSoOrGiveLimit, AreSoOrTell, EachBorrows, FirstBorrows, FirstIsSoOrTells, IsSoOrNo}
use Rattle.schema_validator.specs.Greatest.{DecidesAccepted, ErrorsAccepted, EvaluatesAccepted, FirstAccepted}
use Rattle.standard_keywords.specs.declared.table.StandardTable.{StandardTable}
use Rattle.standard_meta.specs.DraftMeanings.{regexes}
use Rattle.standard_resolver.specs.ResolverDocuments.{HeldDocuments}
use Rattle.jsonschema.proofs.Checking.{unrefused_checked}
use Rattle.jsonschema.specs.BuildOptions.{no_options}
use Rattle.jsonschema.specs.Calls.{AreErrorsOf, IsEvaluationOf, IsFirstErrorOf, IsVerdictOf}
use Rattle.jsonschema.specs.Checked.{IsNoValidatorOf, IsValidatorOf}
use Rattle.jsonschema.specs.Refusing.{IsUnrefused}
use Rattle.jsonschema.specs.declared.error.BuildError.{BuildError}

module _ {State S C Maker Run K : Type 0} (resolvers : ResolverMembers HeldDocuments State S) (tables : TableMembers StandardTable C Maker Run K)
    (keywords : KeywordMembers C Run K) (schema : Value) (v : Program C Treatment) (built : IsValidatorOf resolvers tables keywords no_options schema v) where
  -- an error that refuses no schema
  pub unrefused_call : (b : BuildError) → IsUnrefused b → IsNoValidatorOf resolvers tables keywords no_options schema b
  unrefused_call b none = record {
    metas = built.metas;
    each = built.each;
    refused = unrefused_checked resolvers tables keywords built.metas no_options schema b none;
  }

  module _ {E : Type 0} (instance : Value) where
    pub verdict_of : (r : Result Bool E) → IfOk r (IsSoOrNo keywords regexes v instance DecidesFromSomeDepth)
        → IfOk r (IsSoOrNo keywords regexes v instance DecidesInEverySense) → IfOk r (IsSoOrNo keywords regexes v instance DecidesAccepted)
        → IfOk r (IsVerdictOf resolvers tables keywords schema instance)
    verdict_of (Ok valid) depth senses greatest = record { validator = v; built = built; depth = depth; senses = senses; greatest = greatest }
    verdict_of (Err e) depth senses greatest = tt

    pub first_error_of : (r : Result (Result (Unit {0}) ValidationError) E) → IfOk r (FirstIsSoOrTells keywords regexes v instance FirstFromSomeDepth)
        → IfOk r (FirstIsSoOrTells keywords regexes v instance FirstInEverySense) → IfOk r (FirstIsSoOrTells keywords regexes v instance FirstAccepted)
        → IfOk r (FirstIsSoOrTells keywords regexes v instance FirstPointsAsNodes) → IfOk r (FirstBorrows instance)
        → IfOk r (IsFirstErrorOf resolvers tables keywords schema instance)
    first_error_of (Ok first) depth senses greatest points borrows = record {
      validator = v;
      built = built;
      depth = depth;
      senses = senses;
      greatest = greatest;
      points = points;
      borrows = borrows;
    }
    first_error_of (Err e) depth senses greatest points borrows = tt

    pub errors_of : (r : Result (List ValidationError) E) → IfOk r (AreSoOrTell keywords regexes v instance ErrorsFromSomeDepth)
        → IfOk r (AreSoOrTell keywords regexes v instance ErrorsInEverySense) → IfOk r (AreSoOrTell keywords regexes v instance ErrorsAccepted)
        → IfOk r (AreSoOrTell keywords regexes v instance ErrorsPointAsNodes) → IfOk r (EachBorrows instance)
        → IfOk r (AreErrorsOf resolvers tables keywords schema instance)
    errors_of (Ok errors) depth senses greatest points borrows = record {
      validator = v;
      built = built;
      depth = depth;
      senses = senses;
      greatest = greatest;
      points = points;
      borrows = borrows;
    }
    errors_of (Err e) depth senses greatest points borrows = tt

    pub evaluation_of : (r : Result EvaluationNode E) → IfOk r (AreSoOrGiveLimit keywords regexes v instance EvaluatesFromSomeDepth)
        → IfOk r (AreSoOrGiveLimit keywords regexes v instance EvaluatesInEverySense) → IfOk r (AreSoOrGiveLimit keywords regexes v instance EvaluatesAccepted)
        → IfOk r (AreSoOrGiveLimit keywords regexes v instance UnitsFromSomeDepth) → IfOk r (AreSoOrGiveLimit keywords regexes v instance UnitsInEverySense)
        → IfOk r (IsEvaluationOf resolvers tables keywords schema instance)
    evaluation_of (Ok unit) depth senses greatest units plain = record {
      validator = v;
      built = built;
      depth = depth;
      senses = senses;
      greatest = greatest;
      units = units;
      plain = plain;
    }
    evaluation_of (Err e) depth senses greatest units plain = tt

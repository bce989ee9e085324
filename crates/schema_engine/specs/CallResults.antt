-- The promises of a call of schema and instance, one record for each call, over the parts, the checks of the meta validators, the
-- options, the schema and the instance. (Core 2020-12, 8.2)
use Rattle.std.specs.Prelude.{All, Bool, IfSome, List, Option}
use Rattle.serde_json.specs.Data.{Data}
use Rattle.schema_reports.specs.ReportViews.{BorrowsItsPlace}
use Rattle.schema_reports.specs.declared.evaluation.EvaluationNode.{EvaluationNode}
use Rattle.schema_reports.specs.declared.reports.ValidationError.{ValidationError}
use Rattle.schema_keys.specs.Checking.{MetaChecks}
use Rattle.schema_validator.specs.Called.{DecidesGuardedly, DecidesPlainly, EachLeads, ErrorsGuardedly, ErrorsPlainly, EvaluatesGuardedly, EvaluatesPlainly}
use Rattle.schema_validator.specs.Called.{FirstGuardedly, FirstLeads, FirstPlainly, SchemaBuilds, UnitsGuardedly, UnitsLead, UnitsPlainly}
use Rattle.schema_validator.specs.Checked.{PassesCheck}
use Rattle.schema_validator.specs.Handed.{Handed, Options}
use Rattle.schema_engine.specs.GreatestCalls.{DecidesGreatest, ErrorsGreatest, EvaluatesGreatest, FirstGreatest}

module _ {S K R C M : Type 0} (h : Handed S K R C M) (refuses : MetaChecks) (options : Options) (schema instance : Data) where
  -- the schema builds
  pub record IsAllowed : Type 0 where
    -- there is no cause to refuse what the root reaches, and that is within the limit
    pub builds : SchemaBuilds h options schema
    -- the meta validators accept each document of the schema, if the options have it checked
    pub passed : PassesCheck h.resolver refuses options schema

  -- the verdict
  pub record IsVerdict (valid : Bool) : Type 0 where
    -- it is the one of the plain meaning, if no chain of references returns
    pub answer : DecidesPlainly h options schema instance valid
    -- it is the one of nodes compiled from the schema, from some depth on
    pub guarded : DecidesGuardedly h options schema instance valid
    -- if keywords are monotone and the call decides, it is `true` exactly if the greatest
    -- solution accepts
    pub greatest : DecidesGreatest h options schema instance valid
    pub allowed : IsAllowed

  -- the first error, or none
  pub record IsFirstError (o : Option ValidationError) : Type 0 where
    -- it is the one of the plain meaning, if no chain of references returns
    pub answer : FirstPlainly h options schema instance o
    -- it is the one of nodes compiled from the schema, from some depth on
    pub guarded : FirstGuardedly h options schema instance o
    -- if keywords are monotone and the call decides, there is none exactly if the greatest
    -- solution accepts
    pub greatest : FirstGreatest h options schema instance o
    -- it points at a keyword that its evaluation path leads to, and at a value inside the instance
    pub leads : FirstLeads h options schema instance o
    -- it has the value at its place in the instance
    pub borrows : IfSome o (BorrowsItsPlace instance)
    pub allowed : IsAllowed

  -- all errors, in order
  pub record AreErrors (es : List ValidationError) : Type 0 where
    -- they are those of the plain meaning, if no chain of references returns
    pub answer : ErrorsPlainly h options schema instance es
    -- they are those of nodes compiled from the schema, from some depth on
    pub guarded : ErrorsGuardedly h options schema instance es
    -- if keywords are monotone and the call decides, there is none exactly if the greatest
    -- solution accepts
    pub greatest : ErrorsGreatest h options schema instance es
    -- each points at a keyword that its evaluation path leads to, and at a value inside the
    -- instance
    pub leads : EachLeads h options schema instance es
    -- each has the value at its place in the instance
    pub borrows : All (BorrowsItsPlace instance) es
    pub allowed : IsAllowed

  -- the evaluation
  pub record IsEvaluation (u : EvaluationNode) : Type 0 where
    -- its verdict is the one of the plain meaning, and the errors that its units are made of are
    -- those of that meaning, if no chain of references returns
    pub answer : EvaluatesPlainly h options schema instance u
    -- verdict and errors are those of nodes compiled from the schema, from some depth on
    pub guarded : EvaluatesGuardedly h options schema instance u
    -- if keywords are monotone and the call decides, it is valid exactly if the greatest
    -- solution accepts
    pub greatest : EvaluatesGreatest h options schema instance u
    -- if no match stays unfinished, its units are those of the plain meaning
    pub plain_units : UnitsPlainly h options schema instance u
    -- if no match stays unfinished, its units are those of nodes compiled from the schema
    pub units : UnitsGuardedly h options schema instance u
    -- each error in a unit points at a keyword that the unit's evaluation path leads to, and at a
    -- value inside the instance
    pub leads : UnitsLead h options schema instance u
    pub allowed : IsAllowed

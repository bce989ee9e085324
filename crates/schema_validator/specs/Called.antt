-- The answers of a build about a schema, and of the calls about schema and instance: the sentences
-- that their clauses cite, over the parts. They are those of `Promised`, `ProgramOf`, `Roots`,
-- `Spoken` and `Pointing`.
use Rattle.std.specs.Prelude.{Bool, List, Option, ℕ, ◌≡◌, ◌⊎◌}
use Rattle.serde_json.specs.Data.{Data}
use Rattle.theory_definitions.specs.Cover.{Sense, is_valid}
use Rattle.theory_meaning.specs.Headline.{IsValidAnswer, Plainly, PlainlyWithUnits, VerdictSays}
use Rattle.theory_meaning.specs.Means as means
use Rattle.theory_definitions.specs.Parts.{Parts}
use Rattle.theory_definitions.specs.Plan.{Key}
use Rattle.schema_reports.specs.declared.evaluation.EvaluationNode.{EvaluationNode}
use Rattle.schema_reports.specs.declared.reports.ValidationError.{ValidationError}
use Rattle.schema_node_table.specs.NodeTable.{NodeEntry, numbered}
use Rattle.schema_keys.specs.declared.error.BuildError.{BuildError}
use Rattle.schema_keys.specs.Checking.{MetaChecks}
use Rattle.schema_validator.specs.Checked.{FailsCheck}
use Rattle.schema_validator.specs.Compiled.{IsCompiled}
use Rattle.schema_keys.specs.Compiling.{no_keywords, no_matcher}
use Rattle.schema_validator.specs.Handed.{Handed, Options, parts_of}
use Rattle.schema_validator.specs.Pointing.{EachPoints, EvaluationPoints, FirstPoints}
use Rattle.schema_compiled.specs.Evaluated.{EvaluationAnswered, UnitsAnswered}
use Rattle.schema_compiled.specs.Program.{FromSomeDepth, HasUnits, Program}
use Rattle.schema_validator.specs.ProgramOf.{IsProgramOf}
use Rattle.schema_validator.specs.Promised.{HasKeysUnits, HasSchemasUnits, MeansKey, MeansSchema, OfSchema, PointsIntoSchema, UnitsPointIntoSchema}
use Rattle.schema_validator.specs.Roots.{Builds, RefusesBuild}
use Rattle.schema_compiled.specs.Spoken.{ErrorsAnswered, FirstAnswered}

-- the parts, the options, and the schema
module _ {S K R C M : Type 0} (h : Handed S K R C M) (options : Options) (schema : Data) where
  -- ---- a build

  -- the validator means the plain meaning of schema and parts, if no chain of references returns
  abbrev pub MeansPlainly : Program C M → Type 0
  MeansPlainly p = MeansSchema h.resolver h.table h.matcher h.words options schema h.shape h.is_whole h.matching p

  -- the validator has the units of that plain meaning, if no chain of references returns
  abbrev pub HasPlainUnits : Program C M → Type 0
  HasPlainUnits p = HasSchemasUnits h.resolver h.table h.matcher h.words options schema h.shape h.is_whole h.matching p

  -- each error of its nodes points at a keyword of the schema that its evaluation path leads to,
  -- and at a value inside the instance
  abbrev pub PointsPlainly : Program C M → Type 0
  PointsPlainly p = PointsIntoSchema h.resolver h.table h.matcher h.words options schema h.shape h.matching p

  -- so does each unit of its nodes that has an error of its own
  abbrev pub UnitsPointPlainly : Program C M → Type 0
  UnitsPointPlainly p = UnitsPointIntoSchema h.resolver h.table h.matcher h.words options schema h.shape h.matching p

  -- its nodes correspond one to one to the keys that the root's key reaches, found in the one order
  -- that the schema and the limit on nested targets determine; an edge is guarded exactly if, when
  -- it was made, its target was in progress, or had a number of an earlier round that was not
  -- final; its draft is the root's, and its matcher answers as the one of the parts
  abbrev pub IsCompiledFrom : ℕ → Program C M → Type 0
  IsCompiledFrom nested p = IsProgramOf h.resolver h.table h.matcher options nested schema h.shape h.matching p

  -- its matcher says that it finishes every match exactly if the one of the parts does
  abbrev pub FinishesAlike : Program C M → Type 0
  FinishesAlike p = h.finishing p.matcher ≡ h.finishes

  -- there is no cause to refuse what the root reaches, and that is within the limit
  abbrev pub SchemaBuilds : Type 0
  SchemaBuilds = (texts : Bool) → Builds (parts_of h.resolver h.table h.matcher (h.words texts) options) schema options.limit

  -- the error names a cause that holds, or more keys are reached than the limit
  abbrev pub SchemaRefused : BuildError → Type 0
  SchemaRefused e = (texts : Bool) → RefusesBuild (parts_of h.resolver h.table h.matcher (h.words texts) options) schema options.limit e

  -- ---- a call of an instance

  module _ (instance : Data) where
    -- a fact about the plain meaning of each root key, if no chain of references returns
    abbrev pub PlainlyOf : (Bool → Sense → Type 0) → Type 0
    PlainlyOf fact = OfSchema h.resolver h.table h.matcher h.words options schema instance (λ texts w root. Plainly w root instance (fact texts))

    -- a fact about what the nodes compiled from the schema say from some depth on, even if chains
    -- of references return
    abbrev pub GuardedlyOf : (Bool → Sense → Type 0) → Type 0
    GuardedlyOf fact = (p : Program C M) × IsProgramOf h.resolver h.table h.matcher options options.nested schema h.shape h.matching p
        × FromSomeDepth h.shape h.words h.is_whole h.matching p instance fact

    -- a fact about such nodes, and about the root's key under which their errors point
    abbrev pub PointingOf : (Parts S K R → Key S → Sense → Bool → Type 0) → Type 0
    PointingOf fact = (p : Program C M) × IsProgramOf h.resolver h.table h.matcher options options.nested schema h.shape h.matching p
        × OfSchema h.resolver h.table h.matcher h.words options schema instance
        (λ texts w root. means.FromSomeDepth (h.words texts) (h.matching p.matcher) (numbered h.shape p.nodes) p.root instance (λ v. fact w root v texts))

    -- the verdict is the one of the plain meaning
    abbrev pub DecidesPlainly : Bool → Type 0
    DecidesPlainly valid = OfSchema h.resolver h.table h.matcher h.words options schema instance (λ texts w root. IsValidAnswer w root instance options.runs valid)

    -- it is the one of nodes compiled from the schema, from some depth on
    abbrev pub DecidesGuardedly : Bool → Type 0
    DecidesGuardedly valid = GuardedlyOf (λ texts v. VerdictSays v options.runs is_valid valid)

    -- the first error, or none, is the one of the plain meaning
    abbrev pub FirstPlainly : Option ValidationError → Type 0
    FirstPlainly o = PlainlyOf (λ texts v. FirstAnswered v options.runs texts o)

    -- it is the one of nodes compiled from the schema, from some depth on
    abbrev pub FirstGuardedly : Option ValidationError → Type 0
    FirstGuardedly o = GuardedlyOf (λ texts v. FirstAnswered v options.runs texts o)

    -- it points at a keyword that its evaluation path leads to, and at a value inside the instance
    abbrev pub FirstLeads : Option ValidationError → Type 0
    FirstLeads o = PointingOf (λ w root v texts. FirstPoints w root instance v options.runs texts o)

    -- the errors, in order, are those of the plain meaning
    abbrev pub ErrorsPlainly : List ValidationError → Type 0
    ErrorsPlainly es = PlainlyOf (λ texts v. ErrorsAnswered v options.runs texts es)

    -- they are those of nodes compiled from the schema, from some depth on
    abbrev pub ErrorsGuardedly : List ValidationError → Type 0
    ErrorsGuardedly es = GuardedlyOf (λ texts v. ErrorsAnswered v options.runs texts es)

    -- the evaluation's verdict is the one of the plain meaning, and so are the errors that its
    -- units are made of
    abbrev pub EvaluatesPlainly : EvaluationNode → Type 0
    EvaluatesPlainly u = PlainlyOf (λ texts v. EvaluationAnswered v options.runs texts u)

    -- they are those of nodes compiled from the schema, from some depth on
    abbrev pub EvaluatesGuardedly : EvaluationNode → Type 0
    EvaluatesGuardedly u = GuardedlyOf (λ texts v. EvaluationAnswered v options.runs texts u)

    -- if no match stays unfinished, the units are those of the plain meaning, under every outcome
    abbrev pub UnitsPlainly : EvaluationNode → Type 0
    UnitsPlainly u = OfSchema h.resolver h.table h.matcher h.words options schema instance (λ texts w root. PlainlyWithUnits w root instance (λ v units. UnitsAnswered v texts units u))

    -- if no match stays unfinished, the units are those of nodes compiled from the schema
    abbrev pub UnitsGuardedly : EvaluationNode → Type 0
    UnitsGuardedly u = (p : Program C M) × IsProgramOf h.resolver h.table h.matcher options options.nested schema h.shape h.matching p
        × HasUnits h.shape h.words h.is_whole h.matching p instance u

    -- each points at a keyword that its evaluation path leads to, and at a value inside the
    -- instance
    abbrev pub EachLeads : List ValidationError → Type 0
    EachLeads es = PointingOf (λ w root v texts. EachPoints w root instance v options.runs texts es)

    -- each error in a unit points at a keyword that the unit's evaluation path leads to, and at a
    -- value inside the instance
    abbrev pub UnitsLead : EvaluationNode → Type 0
    UnitsLead u = PointingOf (λ w root v texts. EvaluationPoints w root instance v options.runs texts u)

-- the error names a cause that holds of schema and parts, or a document of the schema that a meta
-- validator refuses, if the check is on
abbrev pub BuildRefused : {S K R C M : Type 0} → Handed S K R C M → MetaChecks → Options → Data → BuildError → Type 0
BuildRefused h refuses options schema e = SchemaRefused h options schema e ⊎ FailsCheck h.resolver refuses options schema e

-- the validator means the plain meaning of any key by any options, if the nodes are compiled from
-- this key by these options, with this number for the key
abbrev pub MeansAsCompiled : {S K R C M : Type 0} → Handed S K R C M → List (NodeEntry C) → ℕ → Program C M → Type 0
MeansAsCompiled {S} h nodes number p = (options : Options) (key : Key S) → IsCompiled (parts_of h.resolver h.table no_matcher no_keywords options) h.shape key nodes number
    → MeansKey h.resolver h.table h.matcher h.words options key h.shape h.is_whole h.matching p

-- and it has the units of this plain meaning
abbrev pub HasUnitsAsCompiled : {S K R C M : Type 0} → Handed S K R C M → List (NodeEntry C) → ℕ → Program C M → Type 0
HasUnitsAsCompiled {S} h nodes number p = (options : Options) (key : Key S) → IsCompiled (parts_of h.resolver h.table no_matcher no_keywords options) h.shape key nodes number
    → HasKeysUnits h.resolver h.table h.matcher h.words options key h.shape h.is_whole h.matching p

-- The promises of a build and of a map, one record for each outcome, over the parts, the checks of
-- the meta validators, the options, and the schema. (Core 2020-12, 8.2)
use Rattle.std.specs.Prelude.{ℕ}
use Rattle.serde_json.specs.Data.{Data}
use Rattle.schema_keys.specs.Checking.{MetaChecks}
use Rattle.schema_keys.specs.declared.error.BuildError.{BuildError}
use Rattle.schema_validator.specs.Called.{BuildRefused, FinishesAlike, HasPlainUnits, IsCompiledFrom, MeansPlainly, PointsPlainly, SchemaBuilds, UnitsPointPlainly}
use Rattle.schema_validator.specs.Checked.{PassesCheck}
use Rattle.schema_validator.specs.FirstCauses.{FirstOfBuild, FirstOfMap}
use Rattle.schema_validator.specs.Greatest.{AcceptsAsSchema}
use Rattle.schema_validator.specs.Handed.{Handed, Options}
use Rattle.schema_validator.specs.MapViews.{Entries}
use Rattle.schema_validator.specs.Mapped.{EachAcceptsGreatest, EachFinishesAlike, EachHasPlainUnits, EachHasSolver, EachIsCompiledFrom, EachMeansPlainly, EachPointsPlainly}
use Rattle.schema_validator.specs.Mapped.{EachsUnitsPoint, HoldsCompiled, HoldsEach, MapIsBuilt, MapRefused}
use Rattle.schema_compiled.specs.Program.{Program}
use Rattle.schema_compiled.specs.Solved.{HasSolver}

module _ {S K R C M : Type 0} (h : Handed S K R C M) (refuses : MetaChecks) (options : Options) (schema : Data) where
  -- ---- a validator that is built of a schema

  -- the validator of a build, with this limit on nested targets
  pub record IsBuilt (nested : ℕ) (p : Program C M) : Type 0 where
    -- it means the plain meaning of schema and parts, if no chain of references returns
    pub means : MeansPlainly h options schema p
    -- it has the units of that meaning
    pub units : HasPlainUnits h options schema p
    -- each error of its nodes points at a keyword of the schema and at a value inside the instance
    pub points : PointsPlainly h options schema p
    -- so does each unit of its nodes that has an error of its own
    pub units_point : UnitsPointPlainly h options schema p
    -- if keywords are monotone, its nodes accept as the greatest solution of the schema does
    pub greatest : AcceptsAsSchema h options schema p
    -- its nodes are those of the keys that the root's key reaches, with this limit on nested
    -- targets; its draft is the root's, and its matcher answers as the one of the parts
    pub program : IsCompiledFrom h options schema nested p
    -- that matcher says that it finishes every match exactly if the one of the parts does
    pub finishing : FinishesAlike h options schema p
    -- it has a solver
    pub solver : HasSolver p
    -- there is no cause to refuse what the root reaches, and that is within the limit
    pub builds : SchemaBuilds h options schema
    -- the meta validators accept each document of the schema, if the options have it checked
    pub passed : PassesCheck h.resolver refuses options schema

  -- the error of a refused build
  pub record IsRefused (e : BuildError) : Type 0 where
    -- it names a cause that holds of schema and parts, or a document that the meta validators
    -- refuse
    pub refused : BuildRefused h refuses options schema e
    -- if there are several causes, it names the first
    pub first : FirstOfBuild h refuses options schema e

  -- ---- a map that is built of a schema's document

  -- the validators of a map, each under its name
  pub record IsMapBuilt (es : Entries (Program C M)) : Type 0 where
    -- it holds exactly the names of what compiles
    pub holds : HoldsCompiled h options schema es
    -- each validator means the plain meaning of the key of its place, if no chain of references
    -- returns
    pub means : EachMeansPlainly h options schema es
    -- each has the units of that meaning
    pub units : EachHasPlainUnits h options schema es
    -- the errors of each point from that key
    pub points : EachPointsPlainly h options schema es
    -- so do the units of each
    pub units_point : EachsUnitsPoint h options schema es
    -- if keywords are monotone, the nodes of each accept as the greatest solution of that key does
    pub greatest : EachAcceptsGreatest h options schema es
    -- each has a solver
    pub solver : EachHasSolver h options schema es
    -- the nodes of each are those of the keys that its own key reaches, which are within the limit
    pub programs : EachIsCompiledFrom h options schema es
    -- the matcher of each says that it finishes every match exactly if the one of the parts does
    pub finishing : EachFinishesAlike h options schema es
    -- each object or boolean of the document that compiles has a validator of its own key under its
    -- own name
    pub at_each : HoldsEach h options schema es
    -- the root has one key, whose vocabularies are declared, and the meta validators accept each
    -- document of the schema
    pub builds : MapIsBuilt h options schema refuses

  -- the error of a refused map
  pub record IsMapRefused (e : BuildError) : Type 0 where
    -- it names why there is no map
    pub refused : MapRefused h options schema refuses e
    -- if there are several causes, it names the first
    pub first : FirstOfMap h refuses options schema e

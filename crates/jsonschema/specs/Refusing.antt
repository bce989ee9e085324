-- What an error of this library says of the engine's.
use Rattle.std.specs.Prelude.{Err, Ok, Result, String, ◌≡◌}
use Rattle.std.specs.declared.alloc.Global.{Global}
use Rattle.schema_keys.specs.declared.error.BuildError as engine
use Rattle.jsonschema.specs.declared.error.BuildError.{BuildError}
use Rattle.jsonschema.specs.declared.error.BuildError.TheVariants.{MetaSchemaRefused, MetaSchemaUnfit, MetaSchemas, OutOfMemory, Refused}

-- it tells this refusal; want of memory tells nothing
abbrev pub Tells : engine.BuildError → BuildError → Type 0
Tells refused (Refused e) = e ≡ refused
Tells refused (MetaSchemaRefused uri e) = ⊥
Tells refused (MetaSchemaUnfit uri) = ⊥
Tells refused (MetaSchemas e) = ⊥
Tells refused OutOfMemory = Unit {0}

-- it tells what a result refuses
abbrev pub TellsOf : {T : Type 0} → Result T engine.BuildError → BuildError → Type 0
TellsOf (Ok v) e = ⊥
TellsOf (Err refused) e = Tells refused e

-- it refuses no schema
abbrev pub IsUnrefused : BuildError → Type 0
IsUnrefused (Refused e) = ⊥
IsUnrefused (MetaSchemaRefused uri e) = ⊥
IsUnrefused (MetaSchemaUnfit uri) = ⊥
IsUnrefused (MetaSchemas e) = Unit {0}
IsUnrefused OutOfMemory = Unit {0}

-- the error of the build of a supplied meta-schema, as one of the schema that names it
abbrev pub blamed : String Global → BuildError → BuildError
blamed uri (Refused e) = MetaSchemaRefused uri e
blamed uri (MetaSchemaRefused below e) = MetaSchemaRefused below e
blamed uri (MetaSchemaUnfit below) = MetaSchemaUnfit below
blamed uri (MetaSchemas e) = MetaSchemas e
blamed uri OutOfMemory = OutOfMemory

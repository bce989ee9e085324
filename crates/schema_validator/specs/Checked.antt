-- The check of a schema by the meta validators of its drafts, if the options ask for it.
-- (Core 2020-12, 8.1.1 and 9.3.3)
use Rattle.std.specs.Prelude.{true, ◌≡◌}
use Rattle.serde_json.specs.Data.{Data}
use Rattle.theory_definitions.specs.Plan.{Key}
use Rattle.theory_definitions.specs.Resolving.{Resolver}
use Rattle.schema_keys.specs.Checking.{AcceptsSchema, MetaChecks, RefusesSchema}
use Rattle.schema_keys.specs.declared.error.BuildError.{BuildError}
use Rattle.schema_validator.specs.Handed.{Options}
use Rattle.schema_validator.specs.Roots.{IsRootKey, root_parts}

module _ {S : Type 0} (resolver : Resolver S) (refuses : MetaChecks) (options : Options) (schema : Data) where
  -- if the check is on, each document of the schema is accepted by its draft's meta validator
  abbrev pub PassesCheck : Type 0
  PassesCheck = options.checks ≡ true → (root : Key S) → IsRootKey (root_parts resolver options) schema root
      → AcceptsSchema resolver refuses root.target.draft root.target.place

  -- the check is on, and one of them is refused by this error; lack of memory says nothing
  abbrev pub FailsCheck : BuildError → Type 0
  FailsCheck e = (options.checks ≡ true) × ((root : Key S) × IsRootKey (root_parts resolver options) schema root
      × RefusesSchema resolver refuses root.target.draft root.target.place e)

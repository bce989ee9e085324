-- The input of a compilation, as parts.
use Rattle.std.specs.Prelude.{Bool, map, string_bytes}
use Rattle.serde_json.specs.Data.{Members}
use Rattle.theory_definitions.specs.Instance.{Text}
use Rattle.theory_definitions.specs.Drafts.{Draft, Vocabularies}
use Rattle.theory_definitions.specs.Making.{Script}
use Rattle.theory_definitions.specs.Resolving.{Resolver}
use Rattle.theory_definitions.specs.Parts.{Parts}
use Rattle.schema_keys.specs.Builtins.{builtin}
use Rattle.schema_keys.specs.Compiling.{parts_of}
use Rattle.schema_keys.specs.declared.options.CompileOptions.{CompileOptions}

abbrev pub given_parts : {S K : Type 0} → Resolver S → (Text → Bool) → (Bool → Text → Members → Draft → Vocabularies → Bool → Script K) → CompileOptions → Parts S K (Unit {0})
given_parts resolver owned script options = parts_of resolver (record { owns = owned; builtin = builtin; script = script }) options.formats (map string_bytes options.declared.items)

-- The errors of lookups that are refused.
use Rattle.std.specs.Prelude.{◌≡◌, string_bytes}
use Rattle.theory_definitions.specs.Instance.{Text}
use Rattle.schema_traits.specs.declared.resolver.LookupError.{LookupError}
use Rattle.schema_traits.specs.declared.resolver.LookupError.TheVariants.{OutOfMemory, Refused}

-- the error is a refusal with this text, or it is out of memory
abbrev pub RefusesWith : Text → LookupError → Type 0
RefusesWith t (Refused text) = string_bytes text ≡ t
RefusesWith t OutOfMemory = Unit {0}

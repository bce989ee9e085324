use Rattle.std.proofs.Common.{inl, inr, refl}
use Rattle.schema_validator.proofs.EntryFailures.{does_not_compile, is_of_schema, passes_limit}
use Rattle.schema_validator.proofs.options.map.MapBuilding.entry_if_compiled.Goals as goal
use Rattle.schema_validator.proofs.options.map.MapBuilding.entry_if_compiled.Goals.{in-OutOfMemory, in-NodeLimit, in_default}

pub returns-after-error : goal.returns-after-error
returns-after-error g c = elim c.match-error.branch [
  | in-OutOfMemory w ↦ rw w.result-is (λ texts. inl refl)
  | in-NodeLimit w ↦ let fails = rw w.in-NodeLimit.is at c.in-Err.ensures in
      rw w.result-is (λ texts. inr (passes_limit _ _ _ c.args.self.now.options.now w.in-NodeLimit.limit (fails texts)))
  | in_default w ↦ rw w.result-is (λ texts. does_not_compile _ _ _ c.args.self.now.options.now.limit c.in-Err.error (is_of_schema c.in-Err.error w.in_default.not-OutOfMemory w.in_default.not-NodeLimit) (c.in-Err.ensures texts))
]

use Rattle.std.proofs.Common.{subst, sym}
use Rattle.jsonschema.specs.Built.{IsBuiltFrom}
use Rattle.jsonschema.proofs.build_options.BuildOptions.build_by.Goals as goal

pub returns-in-Ok-clause-built : goal.returns-in-Ok-clause-built
returns-in-Ok-clause-built g c = subst (IsBuiltFrom _ _ _ (g.V.MetaValidators.checked c.args.metas.now) c.args.self c.args.schema.now)
    (sym c.validator_in.ensures.validator) c.in-Ok.ensures.built

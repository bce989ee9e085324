use Rattle.std.proofs.Common.{subst, sym}
use Rattle.jsonschema.specs.Checked.{IsChecked}
use Rattle.jsonschema.proofs.build_options.BuildOptions.build_checked.Goals as goal

pub returns-in-Ok-clause-built : goal.returns-in-Ok-clause-built
returns-in-Ok-clause-built c = subst (IsChecked _ _ _ c.args.metas.now.checkers c.args.self c.args.schema.now)
    (sym c.validator_in.ensures.validator) c.in-Ok.ensures.built

use Rattle.std.proofs.lemmas.Result.{IfErr-weaker, IfOk-weaker}
use Rattle.jsonschema.proofs.Checking.{built_named, refused_named}
use Rattle.jsonschema.proofs.build_options.BuildOptions.build_beside_supplied.Goals as goal

pub returns-clause-built : goal.returns-clause-built
returns-clause-built c = IfOk-weaker c.build_any-built.result _ _
    (λ b. built_named _ _ _ c.args.metas.now.checkers c.args.self c.args.schema.now c.args.checker c.named_in.result.now c.named_in.ensures.named b.validator)
    c.build_any-built.ensures.built

pub returns-clause-refused : goal.returns-clause-refused
returns-clause-refused c = IfErr-weaker c.build_any-built.result _ _
    (refused_named _ _ _ c.args.metas.now.checkers c.args.self c.args.schema.now c.args.checker c.named_in.result.now c.named_in.ensures.named)
    c.build_any-built.ensures.refused

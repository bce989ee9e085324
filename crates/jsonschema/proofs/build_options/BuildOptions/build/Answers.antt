use Rattle.std.proofs.lemmas.Result.{IfErr-weaker, IfOk-weaker}
use Rattle.meta_checker.proofs.Programs.{each_of_none}
use Rattle.jsonschema.proofs.build_options.BuildOptions.build.Goals as goal

pub returns-clause-built : goal.returns-clause-built
returns-clause-built c = IfOk-weaker c.build_with-built.result _ _ (λ _ built. record {
  metas = _;
  each = c.build_with-built.ensures.each (rw c.new-metas.ensures.none (each_of_none _));
  built = built;
}) c.build_with-built.ensures.built

pub returns-clause-refused : goal.returns-clause-refused
returns-clause-refused c = IfErr-weaker c.build_with-built.result _ _ (λ _ refused. record {
  metas = _;
  each = c.build_with-built.ensures.each (rw c.new-metas.ensures.none (each_of_none _));
  refused = refused;
}) c.build_with-built.ensures.refused

use Rattle.std.proofs.Common.{subst}
use Rattle.std.specs.Prelude.{IfErr, IfOk}
use Rattle.serde_json.specs.View.{view}
use Rattle.schema_keys.specs.declared.error.BuildError.{BuildError}
use Rattle.schema_validator.specs.BuildResults.{IsBuilt, IsRefused}
use Rattle.schema_validator.specs.Handed.{Options, handed}
use Rattle.schema_compiled.specs.Program.{Program}
use Rattle.schema_validator.proofs.validator.Validator.new.Goals as goal

pub returns-clause-built : goal.returns-clause-built
returns-clause-built g c =
    let h = handed g.S.Resolver g.T.KeywordTable g.K.Validate g.M.Matcher c.args.resolver.now c.args.table.now c.args.matcher.now in
    subst (λ (o : Options). IfOk c.build-2.result (λ (v : Program g.row.K.Denot g.row.M.Denot). IsBuilt h (g.V.MetaValidators.checked c.args.metas.now) o (view c.args.schema.now) o.nested v))
    c.options.ensures.defaults c.build-2.ensures.built

pub returns-clause-refused : goal.returns-clause-refused
returns-clause-refused g c =
    let h = handed g.S.Resolver g.T.KeywordTable g.K.Validate g.M.Matcher c.args.resolver.now c.args.table.now c.args.matcher.now in
    subst (λ (o : Options). IfErr c.build-2.result (λ (e : BuildError). IsRefused h (g.V.MetaValidators.checked c.args.metas.now) o (view c.args.schema.now) e))
    c.options.ensures.defaults c.build-2.ensures.refused

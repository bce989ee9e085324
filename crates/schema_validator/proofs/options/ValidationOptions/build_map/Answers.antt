use Rattle.std.proofs.lemmas.Result.{IfOk-weaker}
use Rattle.serde_json.specs.View.{view}
use Rattle.schema_keys.specs.KeyViews.{key_of}
use Rattle.schema_validator.specs.BuildResults.{IsMapBuilt}
use Rattle.schema_validator.specs.Handed.{handed}
use Rattle.schema_validator.proofs.MapAnswers.{is_map}
use Rattle.schema_validator.proofs.options.ValidationOptions.build_map.Goals as goal

pub returns-clause-built : goal.returns-clause-built
returns-clause-built g c =
    let h = handed g.S.Resolver g.T.KeywordTable g.K.Validate g.M.Matcher c.args.resolver.now c.args.table.now c.args.matcher.now in
    let options = c.args.self.now in
    let schema = view c.args.schema.now in
    let refuses = g.V.MetaValidators.checked c.args.metas.now in
    let root = key_of g.S.Resolver.point c.in_ok-root.root in
    let result = c.checked_map.result in
    let made = c.checked_map.ensures.made in
    IfOk-weaker result _ (IsMapBuilt h refuses options schema)
    (λ m is. is_map h options schema root c.in_ok-root.ensures.key is.declared refuses is.accepted (g.met.S.Resolver.inside c.args.resolver.now) is.document is.stands is.fit m is.held) made

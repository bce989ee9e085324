use Rattle.std.proofs.Common.{ap, ◌∙◌}
use Rattle.std.proofs.lemmas.Result.{IfErr-weaker, IfOk-weaker}
use Rattle.jsonschema.specs.Sources.{with_documents}
use Rattle.jsonschema.proofs.Handing.{built_from, built_told, refused_from, refused_told, tells_refused_if}
use Rattle.jsonschema.proofs.build_options.BuildOptions.build_among.Goals as goal

pub returns-in-Ok-clause-built : goal.returns-in-Ok-clause-built
returns-in-Ok-clause-built g c = built_told c.build_of.result c.told.result _ c.told.ensures.same (IfOk-weaker c.build_of.result _ _
    (λ b said are. built_from _ _ _ _ _ _ _ are _ _ c.sources_of-sources.ensures.engine
    (c.in-Ok.ensures.documents ∙ ap (λ s. with_documents s c.args.documents.now) c.sources_of-sources.ensures.sources) b.validator said) c.build_of.ensures.built)

pub returns-in-Ok-clause-refused : goal.returns-in-Ok-clause-refused
returns-in-Ok-clause-refused g c = refused_told c.build_of.result c.told.result _ _ (tells_refused_if _ _ _ _ _ _ _)
    c.told.ensures.told (IfErr-weaker c.build_of.result _ _
    (λ e said are. refused_from _ _ _ _ _ _ _ are _ _ c.sources_of-sources.ensures.engine
    (c.in-Ok.ensures.documents ∙ ap (λ s. with_documents s c.args.documents.now) c.sources_of-sources.ensures.sources) e said) c.build_of.ensures.refused)

use Rattle.std.proofs.Common.{[], inl, refl, sym, ◌∙◌}
use Rattle.std.proofs.lemmas.Result.{IfErr-weaker, IfOk-weaker}
use Rattle.jsonschema.proofs.Handing.{built_from, built_told, refused_from, refused_told, tells_refused, with_none}
use Rattle.jsonschema.proofs.build_options.BuildOptions.build_alone.Goals as goal

pub returns-clause-built : goal.returns-clause-built
returns-clause-built g c = built_told c.build_of.result c.told.result _ c.told.ensures.same (IfOk-weaker c.build_of.result _ _
    (λ b said. built_from _ _ _ _ _ _ [] (inl refl) _ _ c.sources_of-sources.ensures.engine (c.sources_of-sources.ensures.sources ∙ sym (with_none _)) b.validator said)
    c.build_of.ensures.built)

pub returns-clause-refused : goal.returns-clause-refused
returns-clause-refused g c = refused_told c.build_of.result c.told.result _ _ (tells_refused _ _ _ _ _ _) c.told.ensures.told (IfErr-weaker c.build_of.result _ _
    (refused_from _ _ _ _ _ _ [] (inl refl) _ _ c.sources_of-sources.ensures.engine (c.sources_of-sources.ensures.sources ∙ sym (with_none _))) c.build_of.ensures.refused)

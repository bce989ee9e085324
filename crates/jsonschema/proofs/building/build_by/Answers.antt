use Rattle.std.proofs.Common.{ap, sym, ◌∙◌}
use Rattle.schema_traits.proofs.Replies.{if_ok_mono}
use Rattle.jsonschema.proofs.Builds.{built_by, refused_by}
use Rattle.jsonschema.proofs.building.build_by.Goals as goal

pub returns-clause-built : goal.returns-clause-built
returns-clause-built g c =
    built_by _ _ _ _ _ _ _ _ c.new-table.result c.build.result c.new-table.ensures.refuses c.build.ensures.built

pub returns-clause-finishes : goal.returns-clause-finishes
returns-clause-finishes g c = if_ok_mono c.build.result _ _ (λ v built finishes pattern subject reason e.
    finishes pattern subject reason (ap (λ m. m.is_match pattern subject) (sym built.program.matcher_is) ∙ e)) c.build.ensures.built

pub returns-clause-refused : goal.returns-clause-refused
returns-clause-refused g c =
    refused_by _ _ _ _ _ _ _ _ c.new-table.result c.build.result c.new-table.ensures.refuses c.build.ensures.refused

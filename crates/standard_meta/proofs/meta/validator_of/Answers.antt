use Rattle.std.proofs.Common.{ap, false, sym, ◌∙◌}
use Rattle.schema_traits.proofs.Replies.{if_ok_mono}
use Rattle.schema_validator.specs.Handed.{Options}
use Rattle.standard_meta.proofs.Meanings.{compiled_by}
use Rattle.standard_meta.proofs.meta.validator_of.Goals as goal

pub returns-clause-finishes : goal.returns-clause-finishes
returns-clause-finishes c = if_ok_mono c.build.result _ _ (λ v built finishes pattern subject reason e.
    finishes pattern subject reason (ap (λ m. m.is_match pattern subject) (sym built.program.matcher_is) ∙ e)) c.build.ensures.built

pub returns-clause-compiled : goal.returns-clause-compiled
returns-clause-compiled c = compiled_by _ _ _ _ _ c.new-table.result _ _ c.build.result c.new-table.ensures.refuses
    (c.should_validate_schema-options.ensures.checks ∙ ap (λ (o : Options). record o { checks = false }) c.new.ensures.defaults)
    _ c.build.ensures.built

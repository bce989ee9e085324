use Rattle.std.proofs.Common.{subst, sym}
use Rattle.serde_json.specs.View.{view}
use Rattle.schema_reports.specs.declared.evaluation.EvaluationNode.{EvaluationNode}
use Rattle.theory_definitions.specs.Cover.{evaluate}
use Rattle.schema_compiled.specs.Stopped.{GivesLimit}
use Rattle.schema_compiled.proofs.AtLimits.{gives_limit, stops, unless}
use Rattle.schema_compiled.proofs.Taken.{runs_within}
use Rattle.schema_validator.proofs.validator.Validator.evaluate.Goals as goal

pub returns-in-Ok-clause-depth : goal.returns-in-Ok-clause-depth
returns-in-Ok-clause-depth g c = unless _ _ _ _ c.in-Ok.ensures.depth

pub returns-in-Ok-clause-senses : goal.returns-in-Ok-clause-senses
returns-in-Ok-clause-senses g c = unless _ _ _ _ c.in-Ok.ensures.senses

pub returns-in-Ok-clause-greatest : goal.returns-in-Ok-clause-greatest
returns-in-Ok-clause-greatest g c = unless _ _ _ _ c.in-Ok.ensures.greatest

pub returns-in-Ok-clause-units : goal.returns-in-Ok-clause-units
returns-in-Ok-clause-units g c = unless _ _ _ _ c.in-Ok.ensures.units

pub returns-in-Ok-clause-plain : goal.returns-in-Ok-clause-plain
returns-in-Ok-clause-plain g c = unless _ _ _ _ c.in-Ok.ensures.plain

pub returns-in_ok-unit_of_errors-in-Some-clause-depth : goal.returns-in_ok-unit_of_errors-in-Some-clause-depth
returns-in_ok-unit_of_errors-in-Some-clause-depth g c = stops _ _ _ _ _ c.in-Some.ensures.limit (subst (λ (u : EvaluationNode). GivesLimit u c.in-Some.limit) (sym c.new.ensures.root) (gives_limit (view c.args.instance.now) c.in-Some.limit c.in_ok-unit_of_errors-in-Some.field-0 c.in_ok-failure-in-Some.failure.items c.in_ok-failure-in-Some.ensures.tells c.in_ok-unit_of_errors-in-Some.ensures.unit))

pub returns-in_ok-unit_of_errors-in-Some-clause-senses : goal.returns-in_ok-unit_of_errors-in-Some-clause-senses
returns-in_ok-unit_of_errors-in-Some-clause-senses g c = stops _ _ _ _ _ c.in-Some.ensures.limit (subst (λ (u : EvaluationNode). GivesLimit u c.in-Some.limit) (sym c.new.ensures.root) (gives_limit (view c.args.instance.now) c.in-Some.limit c.in_ok-unit_of_errors-in-Some.field-0 c.in_ok-failure-in-Some.failure.items c.in_ok-failure-in-Some.ensures.tells c.in_ok-unit_of_errors-in-Some.ensures.unit))

pub returns-in_ok-unit_of_errors-in-Some-clause-greatest : goal.returns-in_ok-unit_of_errors-in-Some-clause-greatest
returns-in_ok-unit_of_errors-in-Some-clause-greatest g c = stops _ _ _ _ _ c.in-Some.ensures.limit (subst (λ (u : EvaluationNode). GivesLimit u c.in-Some.limit) (sym c.new.ensures.root) (gives_limit (view c.args.instance.now) c.in-Some.limit c.in_ok-unit_of_errors-in-Some.field-0 c.in_ok-failure-in-Some.failure.items c.in_ok-failure-in-Some.ensures.tells c.in_ok-unit_of_errors-in-Some.ensures.unit))

pub returns-in_ok-unit_of_errors-in-Some-clause-units : goal.returns-in_ok-unit_of_errors-in-Some-clause-units
returns-in_ok-unit_of_errors-in-Some-clause-units g c = stops _ _ _ _ _ c.in-Some.ensures.limit (subst (λ (u : EvaluationNode). GivesLimit u c.in-Some.limit) (sym c.new.ensures.root) (gives_limit (view c.args.instance.now) c.in-Some.limit c.in_ok-unit_of_errors-in-Some.field-0 c.in_ok-failure-in-Some.failure.items c.in_ok-failure-in-Some.ensures.tells c.in_ok-unit_of_errors-in-Some.ensures.unit))

pub returns-in_ok-unit_of_errors-in-Some-clause-plain : goal.returns-in_ok-unit_of_errors-in-Some-clause-plain
returns-in_ok-unit_of_errors-in-Some-clause-plain g c = stops _ _ _ _ _ c.in-Some.ensures.limit (subst (λ (u : EvaluationNode). GivesLimit u c.in-Some.limit) (sym c.new.ensures.root) (gives_limit (view c.args.instance.now) c.in-Some.limit c.in_ok-unit_of_errors-in-Some.field-0 c.in_ok-failure-in-Some.failure.items c.in_ok-failure-in-Some.ensures.tells c.in_ok-unit_of_errors-in-Some.ensures.unit))

pub returns-in-Ok-clause-works : goal.returns-in-Ok-clause-works
returns-in-Ok-clause-works g c = unless _ _ _ _ (runs_within g.K.Validate g.M.Matcher c.args.self.now (view c.args.instance.now) evaluate _ _ c.in-Ok.evaluation c.budget-work.ensures.budget c.in-Ok.ensures.works)

pub returns-in_ok-unit_of_errors-in-Some-clause-works : goal.returns-in_ok-unit_of_errors-in-Some-clause-works
returns-in_ok-unit_of_errors-in-Some-clause-works g c = stops _ _ _ _ _ c.in-Some.ensures.limit (subst (λ (u : EvaluationNode). GivesLimit u c.in-Some.limit) (sym c.new.ensures.root) (gives_limit (view c.args.instance.now) c.in-Some.limit c.in_ok-unit_of_errors-in-Some.field-0 c.in_ok-failure-in-Some.failure.items c.in_ok-failure-in-Some.ensures.tells c.in_ok-unit_of_errors-in-Some.ensures.unit))

use Rattle.std.proofs.Common.{refl}
use Rattle.schema_compiled.proofs.AtLimits.{stops, unless}
use Rattle.serde_json.specs.View.{view}
use Rattle.theory_definitions.specs.Cover.{is_valid}
use Rattle.schema_compiled.proofs.Taken.{runs_within}
use Rattle.schema_validator.proofs.Budgets.{never_stopped}
use Rattle.schema_validator.proofs.validator.Validator.is_valid.Goals as goal

pub returns-in-Ok-clause-depth : goal.returns-in-Ok-clause-depth
returns-in-Ok-clause-depth g c = unless _ _ _ _ c.in-Ok.ensures.depth

pub returns-in-Ok-clause-senses : goal.returns-in-Ok-clause-senses
returns-in-Ok-clause-senses g c = unless _ _ _ _ c.in-Ok.ensures.senses

pub returns-in-Ok-clause-greatest : goal.returns-in-Ok-clause-greatest
returns-in-Ok-clause-greatest g c = unless _ _ _ _ c.in-Ok.ensures.greatest

pub returns-in-Some-clause-depth : goal.returns-in-Some-clause-depth
returns-in-Some-clause-depth g c = stops _ _ _ _ _ c.in-Some.ensures.limit refl

pub returns-in-Some-clause-senses : goal.returns-in-Some-clause-senses
returns-in-Some-clause-senses g c = stops _ _ _ _ _ c.in-Some.ensures.limit refl

pub returns-in-Some-clause-greatest : goal.returns-in-Some-clause-greatest
returns-in-Some-clause-greatest g c = stops _ _ _ _ _ c.in-Some.ensures.limit refl

pub returns-in-Ok-clause-decides : goal.returns-in-Ok-clause-decides
returns-in-Ok-clause-decides g c = λ none decided. c.in-Ok.ensures.depth

pub returns-in-Some-clause-decides : goal.returns-in-Some-clause-decides
returns-in-Some-clause-decides g c = λ none decided.
    absurd (never_stopped g.K.Validate g.M.Matcher c.args.self.now c.args.instance.now c.in-Some._limit c.budget-work.result c.is_valid_within.new.work c.in-Err.failure c.budget-work.ensures.budget c.in-Some.ensures.limit c.in-Some.ensures.named none decided c.in-Err.ensures.decides c.in-Err.ensures.fails)

pub returns-in-Ok-clause-works : goal.returns-in-Ok-clause-works
returns-in-Ok-clause-works g c = unless _ _ _ _ (runs_within g.K.Validate g.M.Matcher c.args.self.now (view c.args.instance.now) is_valid _ _ c.in-Ok.valid c.budget-work.ensures.budget c.in-Ok.ensures.works)

pub returns-in-Some-clause-works : goal.returns-in-Some-clause-works
returns-in-Some-clause-works g c = stops _ _ _ _ _ c.in-Some.ensures.limit refl

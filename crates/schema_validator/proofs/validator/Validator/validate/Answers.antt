use Rattle.std.proofs.Common.{refl}
use Rattle.serde_json.specs.View.{view}
use Rattle.theory_definitions.specs.Cover.{validate}
use Rattle.schema_compiled.specs.Answers.{refusal_of}
use Rattle.schema_compiled.proofs.AtLimits.{stops, tells_borrows, unless}
use Rattle.schema_compiled.proofs.Taken.{runs_within}
use Rattle.schema_validator.proofs.Budgets.{never_stopped}
use Rattle.schema_validator.proofs.validator.Validator.validate.Goals as goal

pub returns-in-Ok-clause-depth : goal.returns-in-Ok-clause-depth
returns-in-Ok-clause-depth g c = unless _ _ _ _ c.in-Ok.ensures.depth

pub returns-in-Ok-clause-senses : goal.returns-in-Ok-clause-senses
returns-in-Ok-clause-senses g c = unless _ _ _ _ c.in-Ok.ensures.senses

pub returns-in-Ok-clause-greatest : goal.returns-in-Ok-clause-greatest
returns-in-Ok-clause-greatest g c = unless _ _ _ _ c.in-Ok.ensures.greatest

pub returns-in-Ok-clause-points : goal.returns-in-Ok-clause-points
returns-in-Ok-clause-points g c = unless _ _ _ _ c.in-Ok.ensures.points

pub returns-in_ok-limit_failure-in-Some-clause-depth : goal.returns-in_ok-limit_failure-in-Some-clause-depth
returns-in_ok-limit_failure-in-Some-clause-depth g c = stops _ _ _ _ _ c.in-Some.ensures.limit (c.in_ok-limit_failure-in-Some.field-0, refl, c.in_ok-limit_failure-in-Some.ensures.tells)

pub returns-in_ok-limit_failure-in-Some-clause-senses : goal.returns-in_ok-limit_failure-in-Some-clause-senses
returns-in_ok-limit_failure-in-Some-clause-senses g c = stops _ _ _ _ _ c.in-Some.ensures.limit (c.in_ok-limit_failure-in-Some.field-0, refl, c.in_ok-limit_failure-in-Some.ensures.tells)

pub returns-in_ok-limit_failure-in-Some-clause-greatest : goal.returns-in_ok-limit_failure-in-Some-clause-greatest
returns-in_ok-limit_failure-in-Some-clause-greatest g c = stops _ _ _ _ _ c.in-Some.ensures.limit (c.in_ok-limit_failure-in-Some.field-0, refl, c.in_ok-limit_failure-in-Some.ensures.tells)

pub returns-in_ok-limit_failure-in-Some-clause-points : goal.returns-in_ok-limit_failure-in-Some-clause-points
returns-in_ok-limit_failure-in-Some-clause-points g c = stops _ _ _ _ _ c.in-Some.ensures.limit (c.in_ok-limit_failure-in-Some.field-0, refl, c.in_ok-limit_failure-in-Some.ensures.tells)

pub returns-in_ok-limit_failure-in-Some-clause-borrows : goal.returns-in_ok-limit_failure-in-Some-clause-borrows
returns-in_ok-limit_failure-in-Some-clause-borrows g c = tells_borrows (view c.args.instance.now) c.in-Some.limit c.in_ok-limit_failure-in-Some.field-0 c.in_ok-limit_failure-in-Some.ensures.tells

pub returns-in-Ok-clause-works : goal.returns-in-Ok-clause-works
returns-in-Ok-clause-works g c = unless _ _ _ _ (runs_within g.K.Validate g.M.Matcher c.args.self.now (view c.args.instance.now) validate _ _ (refusal_of c.in-Ok.refusal) c.budget-work.ensures.budget c.in-Ok.ensures.works)

pub returns-in_ok-limit_failure-in-Some-clause-works : goal.returns-in_ok-limit_failure-in-Some-clause-works
returns-in_ok-limit_failure-in-Some-clause-works g c = stops _ _ _ _ _ c.in-Some.ensures.limit (c.in_ok-limit_failure-in-Some.field-0, refl, c.in_ok-limit_failure-in-Some.ensures.tells)

pub returns-in-Ok-clause-decides : goal.returns-in-Ok-clause-decides
returns-in-Ok-clause-decides g c = λ none decided accepts. c.in-Ok.ensures.depth

pub returns-in_ok-limit_failure-in-Some-clause-decides : goal.returns-in_ok-limit_failure-in-Some-clause-decides
returns-in_ok-limit_failure-in-Some-clause-decides g c = λ none decided accepts.
    absurd (never_stopped g.K.Validate g.M.Matcher c.args.self.now c.args.instance.now c.in-Some.limit c.budget-work.result c.validate_within.new.work c.in-Err.failure c.budget-work.ensures.budget c.in-Some.ensures.limit c.in-Some.ensures.named none decided (λ enough. c.in-Err.ensures.decides enough accepts) c.in-Err.ensures.fails)

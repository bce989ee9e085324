use Rattle.std.proofs.Common.{map}
use Rattle.schema_reports.specs.InstanceViews.{step_of, subject_of}
use Rattle.schema_run_steps.specs.EvaluationPlaces.{steps_to}
use Rattle.schema_traits.proofs.Replies.{stands_below}
use Rattle.schema_run_steps.proofs.faults.own_error.Goals as goal

pub returns-clause-borrows : goal.returns-clause-borrows
returns-clause-borrows g c = λ root at_place inside.
    let found = (rw c.as_slice.ensures.value at c.instance_below-instance.ensures.below) inside in
    stands_below root (steps_to c.args.question.now.place.now) (map step_of c.args.found.below.items) _ (subject_of c.args.question.now.instance) _ c.in_ok-places.ensures.places.place at_place found

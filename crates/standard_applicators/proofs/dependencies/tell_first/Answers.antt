use Rattle.std.proofs.Common.{rules}
use Rattle.schema_reports.specs.InstanceViews.{subject_of}
use Rattle.standard_applicators.proofs.UnmetWants.{ends_so}
use Rattle.standard_applicators.proofs.dependencies.tell_first.Goals as goal

pub returns-then-wants_one-clause-ends : goal.returns-then-wants_one-clause-ends
returns-then-wants_one-clause-ends c = λ texts os.
    ends_so texts (subject_of c.args.instance) c.args.wants.now c.args.run.now.stage c.args.run.now.mode os c.has_unmet.result (search rules) (search rules) c.has_unmet.ensures.unmet

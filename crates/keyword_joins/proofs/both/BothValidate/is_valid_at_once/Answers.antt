use Rattle.schema_reports.specs.InstanceViews.{subject_of}
use Rattle.keyword_joins.proofs.AtOnce.{first_at_once, second_at_once}
use Rattle.keyword_joins.proofs.both.BothValidate.is_valid_at_once.Goals as goal

pub returns-in-First : goal.returns-in-First
returns-in-First g c = record {
  at_once = rw c.in-First.is (first_at_once g.A.Validate.words g.B.Validate.words g.A.Validate.is_whole g.B.Validate.is_whole (subject_of c.args.instance) g.met.A.Validate.answers
      (g.A.Validate.shape c.in-First.keyword) c.is_valid_at_once.result c.is_valid_at_once.ensures.at_once);
}

pub returns-in-Second : goal.returns-in-Second
returns-in-Second g c = record {
  at_once = rw c.in-Second.is (second_at_once g.A.Validate.words g.B.Validate.words g.A.Validate.is_whole g.B.Validate.is_whole (subject_of c.args.instance) g.met.B.Validate.answers
      (g.B.Validate.shape c.in-Second.keyword) c.is_valid_at_once-in-Second.result c.is_valid_at_once-in-Second.ensures.at_once);
}

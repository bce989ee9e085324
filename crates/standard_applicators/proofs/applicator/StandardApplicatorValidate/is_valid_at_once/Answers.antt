use Rattle.std.proofs.Common.{sym, true}
use Rattle.schema_reports.specs.InstanceViews.{subject_of}
use Rattle.standard_applicators.proofs.AtOnce.{contains_at_once, none_at_once}
use Rattle.standard_applicators.proofs.applicator.StandardApplicatorValidate.is_valid_at_once.Goals as goal

pub returns-in-Contains : goal.returns-in-Contains
returns-in-Contains c = record {
  at_once = rw c.in-Contains.is (contains_at_once true c.in-Contains.keyword (subject_of c.args.instance) c.is_valid_at_once.result c.is_valid_at_once.ensures.at_once);
}

pub returns-in-NoLaterItems : goal.returns-in-NoLaterItems
returns-in-NoLaterItems c = record {
  at_once = λ texts tells. rw c.in-NoLaterItems.is (none_at_once texts c.in-NoLaterItems.keyword (subject_of c.args.instance) c.holds.result (sym c.holds.ensures.holds));
}

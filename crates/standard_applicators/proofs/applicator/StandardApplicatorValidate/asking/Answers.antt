use Rattle.schema_reports.specs.InstanceViews.{subject_of}
use Rattle.standard_applicators.proofs.AskedTold.{later_asked, listed_asked}
use Rattle.standard_applicators.proofs.applicator.StandardApplicatorValidate.asking.Goals as goal

pub returns-in-Some : goal.returns-in-Some
returns-in-Some c = record {
  asks = rw c.in-ListedItems.is (λ texts tells. record {
    own = c.in-Some.ensures.items;
    says = λ at_once matching accepts. listed_asked texts (subject_of c.args.instance) matching accepts c.in-Some.items.now c.in-Some.ensures.items c.in-ListedItems.count;
  });
}

pub returns-in-Some-items_of : goal.returns-in-Some-items_of
returns-in-Some-items_of c = record {
  asks = rw c.in-LaterItems.is (λ texts tells. record {
    own = c.in-Some-items_of.ensures.items;
    says = λ at_once matching accepts. later_asked texts (subject_of c.args.instance) matching accepts c.in-Some-items_of.items.now c.in-Some-items_of.ensures.items c.in-LaterItems.before;
  });
}

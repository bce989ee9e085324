use Rattle.schema_reports.specs.InstanceViews.{subject_of}
use Rattle.standard_basics.proofs.AskedTold.{each_asked, items_asked, listed_asked, members_asked, names_asked, one_asked}
use Rattle.standard_basics.proofs.keyword.BasicKeywordValidate.asking.Goals as goal

pub returns-in-Some : goal.returns-in-Some
returns-in-Some c = record {
  asks = rw c.in-Properties.is (λ texts tells. record {
    own = c.in-Some.ensures.members;
    says = λ at_once matching accepts. members_asked texts (subject_of c.args.instance) matching accepts c.in-Properties.names;
  });
}

pub returns-in-Some-items_of : goal.returns-in-Some-items_of
returns-in-Some-items_of c = record {
  asks = rw c.in-Items.is (λ texts tells. record {
    own = c.in-Some-items_of.ensures.items;
    says = λ at_once matching accepts. items_asked texts (subject_of c.args.instance) matching accepts c.in-Some-items_of.items.now c.in-Some-items_of.ensures.items c.in-Items.before;
  });
}

pub returns-in-Some-items_of-2 : goal.returns-in-Some-items_of-2
returns-in-Some-items_of-2 c = record {
  asks = rw c.in-PrefixItems.is (λ texts tells. record {
    own = c.in-Some-items_of-2.ensures.items;
    says = λ at_once matching accepts. listed_asked texts (subject_of c.args.instance) matching accepts c.in-Some-items_of-2.items.now c.in-Some-items_of-2.ensures.items c.in-PrefixItems.count;
  });
}

pub returns-in-Some-members_of : goal.returns-in-Some-members_of
returns-in-Some-members_of c = record {
  asks = rw c.in-PropertyNames.is (λ texts tells. record {
    own = c.in-Some-members_of.ensures.members;
    says = λ at_once matching accepts. names_asked texts (subject_of c.args.instance) matching accepts c.in-Some-members_of.members.now.entries c.in-Some-members_of.ensures.members;
  });
}

pub returns-in-AllOf : goal.returns-in-AllOf
returns-in-AllOf c = record {
  asks = rw c.in-AllOf.is (λ texts tells. record {
    own = tt;
    says = λ at_once matching accepts. each_asked texts (subject_of c.args.instance) matching accepts c.in-AllOf.count;
  });
}

pub returns-in-AnyOf : goal.returns-in-AnyOf
returns-in-AnyOf c = record {
  asks = rw c.in-AnyOf.is (λ texts tells. record {
    own = tt;
    says = λ at_once matching accepts. one_asked texts (subject_of c.args.instance) matching accepts c.in-AnyOf.count;
  });
}

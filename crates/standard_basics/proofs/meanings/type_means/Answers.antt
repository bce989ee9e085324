use Rattle.std.proofs.Common.{Any, codes}
use Rattle.std.specs.List.{list_any}
use Rattle.schema_reports.specs.ReportViews.{spoken}
use Rattle.standard_basics.specs.TypeNames.{fits}
use Rattle.standard_basics.specs.ValueTypes.{HasType}
use Rattle.standard_basics.specs.Words.{type_text, types_text}
use Rattle.standard_basics.proofs.Meant.{holds_unless, one_unless, some_type_fits, type_fits}
use Rattle.standard_basics.proofs.meanings.type_means.Goals as goal

pub returns-clause-one : goal.returns-clause-one
returns-clause-one c = λ texts s matches t. record {
  holds = λ accepts. holds_unless (spoken texts) (fits t s) (HasType t s) (type_text t s) (type_fits t s);
  faults = λ answers. one_unless (spoken texts) (fits t s) (HasType t s) (codes "type") (type_text t s) (type_fits t s);
}

pub returns-clause-some : goal.returns-clause-some
returns-clause-some c = λ texts s matches ts. record {
  holds = λ accepts. holds_unless (spoken texts) (list_any (λ t. fits t s) ts) (Any (λ t. HasType t s) ts) (types_text ts s) (some_type_fits ts s);
  faults = λ answers. one_unless (spoken texts) (list_any (λ t. fits t s) ts) (Any (λ t. HasType t s) ts) (codes "type") (types_text ts s) (some_type_fits ts s);
}

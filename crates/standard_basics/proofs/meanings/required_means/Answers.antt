use Rattle.schema_reports.specs.ReportViews.{spoken}
use Rattle.standard_basics.specs.Words.{required_text}
use Rattle.standard_basics.proofs.Meant.{required_faults, required_holds}
use Rattle.standard_basics.proofs.meanings.required_means.Goals as goal

pub returns-clause-holds : goal.returns-clause-holds
returns-clause-holds c = λ texts s matches names accepts. required_holds (λ name. spoken texts (required_text name)) s names

pub returns-clause-faults : goal.returns-clause-faults
returns-clause-faults c = λ texts s matches names answers. required_faults (λ name. spoken texts (required_text name)) names s

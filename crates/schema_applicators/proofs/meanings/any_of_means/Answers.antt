use Rattle.std.proofs.Common.{codes}
use Rattle.schema_reports.specs.ReportViews.{spoken}
use Rattle.schema_applicators.specs.Meanings.{schemas, verdict_in}
use Rattle.schema_applicators.specs.Words.{none_text}
use Rattle.schema_applicators.proofs.Meant.{any_of_holds, if_none-one, own_unless}
use Rattle.schema_applicators.proofs.meanings.any_of_means.Goals as goal

pub returns-clause-holds : goal.returns-clause-holds
returns-clause-holds c = λ texts s matches n accepts. any_of_holds (spoken texts (none_text (codes "anyOf") s)) accepts (schemas n)

pub returns-clause-faults : goal.returns-clause-faults
returns-clause-faults c = λ texts s matches n answers. let text = spoken texts (none_text (codes "anyOf") s) in
    own_unless _ (codes "anyOf") _ (any_of_holds text (verdict_in answers) (schemas n)) (if_none-one text _)

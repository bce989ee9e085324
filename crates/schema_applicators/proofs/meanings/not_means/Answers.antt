use Rattle.std.proofs.Common.{codes}
use Rattle.schema_reports.specs.ReportViews.{spoken}
use Rattle.schema_applicators.specs.Meanings.{schema, verdict_in}
use Rattle.schema_applicators.specs.Words.{not_text}
use Rattle.schema_applicators.proofs.Meant.{if_any-one, not_holds, own_unless}
use Rattle.schema_applicators.proofs.meanings.not_means.Goals as goal

pub returns-clause-holds : goal.returns-clause-holds
returns-clause-holds c = λ texts s matches text fraction accepts. not_holds (spoken texts (not_text text s)) accepts (schema 0)

pub returns-clause-faults : goal.returns-clause-faults
returns-clause-faults c = λ texts s matches text fraction answers. let told = spoken texts (not_text text s) in
    own_unless _ (codes "not") _ (not_holds told (verdict_in answers) (schema 0)) (if_any-one told _)

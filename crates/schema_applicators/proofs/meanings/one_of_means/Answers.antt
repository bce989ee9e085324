use Rattle.std.proofs.Common.{codes}
use Rattle.schema_reports.specs.ReportViews.{spoken}
use Rattle.schema_applicators.specs.Meanings.{schemas, verdict_in}
use Rattle.schema_applicators.specs.Words.{many_text, none_text}
use Rattle.schema_applicators.proofs.Meant.{one_of_holds, own_unless, unless_one-one}
use Rattle.schema_applicators.proofs.meanings.one_of_means.Goals as goal

pub returns-clause-holds : goal.returns-clause-holds
returns-clause-holds c = λ texts s matches n accepts. one_of_holds (spoken texts (none_text (codes "oneOf") s)) (spoken texts (many_text s)) accepts (schemas n)

pub returns-clause-faults : goal.returns-clause-faults
returns-clause-faults c = λ texts s matches n answers.
    let none = spoken texts (none_text (codes "oneOf") s) in
    let many = spoken texts (many_text s) in
    own_unless _ (codes "oneOf") _ (one_of_holds none many (verdict_in answers) (schemas n)) (unless_one-one none many _)

use Rattle.schema_compiler.proofs.agreeing.tables_agree.Goals as goal
use Rattle.schema_compiler.proofs.TablesAgree as lemmas

pub returns : goal.returns
returns g c = record { agree = λ w shape other. lemmas.tables_agree w shape other }

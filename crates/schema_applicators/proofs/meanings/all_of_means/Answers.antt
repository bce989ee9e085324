use Rattle.schema_applicators.specs.Meanings.{schemas}
use Rattle.schema_applicators.proofs.Meant.{all_of_faults, all_of_holds}
use Rattle.schema_applicators.proofs.meanings.all_of_means.Goals as goal

pub returns-clause-holds : goal.returns-clause-holds
returns-clause-holds c = λ texts s matches n accepts. all_of_holds accepts (schemas n)

pub returns-clause-faults : goal.returns-clause-faults
returns-clause-faults c = λ texts s matches n answers. all_of_faults answers (schemas n)

use Rattle.keyword_authoring.specs.Somes.{somes}
use Rattle.standard_applicators.specs.Dependents.{dependents_from}
use Rattle.standard_applicators.proofs.Meant.{dependents_hold, faults_passed}
use Rattle.standard_applicators.proofs.meanings.dependent_schemas_means.Goals as goal

pub returns-clause-holds : goal.returns-clause-holds
returns-clause-holds c = λ texts s matches names accepts. dependents_hold accepts s names

pub returns-clause-faults : goal.returns-clause-faults
returns-clause-faults c = λ texts s matches names answers. faults_passed answers (somes (dependents_from 0 names s))

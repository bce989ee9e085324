use Rattle.standard_applicators.proofs.WantsMeant.{wants_faults, wants_hold}
use Rattle.standard_applicators.proofs.meanings.dependencies_mean.Goals as goal

pub returns-clause-holds : goal.returns-clause-holds
returns-clause-holds c = λ texts s matches wants names accepts. wants_hold texts s accepts wants names

pub returns-clause-faults : goal.returns-clause-faults
returns-clause-faults c = λ texts s matches wants names answers. wants_faults texts s answers wants names

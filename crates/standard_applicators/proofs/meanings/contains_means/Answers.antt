use Rattle.keyword_authoring.specs.Items.{is_list}
use Rattle.standard_applicators.proofs.ContainsMeant.{contains_faults, contains_hold}
use Rattle.standard_applicators.proofs.meanings.contains_means.Goals as goal

pub returns-clause-holds : goal.returns-clause-holds
returns-clause-holds c = λ texts s matches k accepts. contains_hold texts s matches (is_list s) k.least k.most accepts

pub returns-clause-faults : goal.returns-clause-faults
returns-clause-faults c = λ texts s matches k answers. contains_faults texts s matches (is_list s) k.least k.most answers

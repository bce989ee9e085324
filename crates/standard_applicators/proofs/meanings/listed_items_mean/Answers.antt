use Rattle.std.proofs.Common.{min}
use Rattle.keyword_authoring.specs.Items.{each_from, item_count}
use Rattle.standard_applicators.specs.Meanings.{schema_at}
use Rattle.standard_applicators.proofs.Meant.{faults_passed, listed_hold}
use Rattle.standard_applicators.proofs.meanings.listed_items_mean.Goals as goal

pub returns-clause-holds : goal.returns-clause-holds
returns-clause-holds c = λ texts s matches n accepts. listed_hold accepts (λ i. schema_at i i) n (item_count s)

pub returns-clause-faults : goal.returns-clause-faults
returns-clause-faults c = λ texts s matches n answers. faults_passed answers (each_from (λ i. schema_at i i) 0 (min n (item_count s)))

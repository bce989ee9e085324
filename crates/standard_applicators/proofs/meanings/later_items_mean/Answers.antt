use Rattle.std.proofs.Common.{◌-◌}
use Rattle.keyword_authoring.specs.Items.{item_count}
use Rattle.standard_applicators.specs.Meanings.{at_items, schema_at}
use Rattle.standard_applicators.proofs.Meant.{faults_passed, later_hold}
use Rattle.standard_applicators.proofs.meanings.later_items_mean.Goals as goal

pub returns-clause-holds : goal.returns-clause-holds
returns-clause-holds c = λ texts s matches before accepts. later_hold accepts (λ i. schema_at 0 i) before (item_count s)

pub returns-clause-faults : goal.returns-clause-faults
returns-clause-faults c = λ texts s matches before answers. faults_passed answers (at_items before (item_count s - before))

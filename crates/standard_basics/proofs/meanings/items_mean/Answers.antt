use Rattle.std.proofs.Common.{◌-◌}
use Rattle.keyword_authoring.specs.Items.{each_from, item_count}
use Rattle.standard_basics.specs.Meanings.{schema_at}
use Rattle.standard_basics.proofs.Meant.{faults_passed, later_fit}
use Rattle.standard_basics.proofs.meanings.items_mean.Goals as goal

pub returns : goal.returns
returns c = record {
  means = λ texts s matches before. record {
    holds = λ accepts. later_fit accepts (λ i. schema_at 0 i) before (item_count s);
    faults = λ answers. faults_passed answers (each_from (λ i. schema_at 0 i) before (item_count s - before));
  };
}

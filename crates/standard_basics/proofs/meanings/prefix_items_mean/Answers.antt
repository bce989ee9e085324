use Rattle.std.proofs.Common.{min}
use Rattle.keyword_authoring.specs.Items.{each_from, item_count}
use Rattle.standard_basics.specs.Meanings.{schema_at}
use Rattle.standard_basics.proofs.Meant.{faults_passed, own_fit}
use Rattle.standard_basics.proofs.meanings.prefix_items_mean.Goals as goal

pub returns : goal.returns
returns c = record {
  means = λ texts s matches n. record {
    holds = λ accepts. own_fit accepts (λ i. schema_at i i) n (item_count s);
    faults = λ answers. faults_passed answers (each_from (λ i. schema_at i i) 0 (min n (item_count s)));
  };
}

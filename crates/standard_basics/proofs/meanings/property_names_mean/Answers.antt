use Rattle.std.proofs.Common.{map}
use Rattle.keyword_authoring.specs.Members.{subject_names}
use Rattle.standard_basics.specs.Meanings.{schema_at_name}
use Rattle.standard_basics.proofs.Meant.{faults_passed, names_fit}
use Rattle.standard_basics.proofs.meanings.property_names_mean.Goals as goal

pub returns : goal.returns
returns c = record {
  means = λ texts s matches. record {
    holds = λ accepts. names_fit accepts (subject_names s);
    faults = λ answers. faults_passed answers (map schema_at_name (subject_names s));
  };
}

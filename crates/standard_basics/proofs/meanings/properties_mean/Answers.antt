use Rattle.keyword_authoring.specs.Members.{members_from}
use Rattle.keyword_authoring.specs.Somes.{somes}
use Rattle.standard_basics.proofs.Meant.{faults_passed, listed_fit}
use Rattle.standard_basics.proofs.meanings.properties_mean.Goals as goal

pub returns : goal.returns
returns c = record {
  means = λ texts s matches names. record {
    holds = λ accepts. listed_fit accepts s names;
    faults = λ answers. faults_passed answers (somes (members_from 0 names s));
  };
}

use Rattle.standard_basics.specs.Counts.{subject_string}
use Rattle.standard_basics.proofs.Meant.{pattern_faults, pattern_holds}
use Rattle.standard_basics.proofs.meanings.pattern_means.Goals as goal

pub returns : goal.returns
returns c = record {
  means = λ texts s matches pattern. record {
    holds = λ accepts. pattern_holds texts pattern s matches (subject_string s) accepts;
    faults = λ answers. pattern_faults texts pattern s matches (subject_string s) answers;
  };
}

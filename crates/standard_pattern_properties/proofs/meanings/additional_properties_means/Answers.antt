use Rattle.keyword_authoring.specs.Members.{subject_names}
use Rattle.standard_pattern_properties.specs.Present.{all_members}
use Rattle.standard_pattern_properties.proofs.Meant.{others_mean}
use Rattle.standard_pattern_properties.proofs.meanings.additional_properties_means.Goals as goal

pub returns : goal.returns
returns c = record { holds = λ texts s matching beside accepts. others_mean matching accepts s beside (subject_names s) (all_members s) }

use Rattle.keyword_authoring.specs.Members.{subject_names}
use Rattle.standard_pattern_properties.specs.Present.{all_members}
use Rattle.standard_pattern_properties.proofs.Meant.{patterns_mean}
use Rattle.standard_pattern_properties.proofs.meanings.pattern_properties_means.Goals as goal

pub returns : goal.returns
returns c = record { holds = λ texts s matching patterns accepts. patterns_mean matching accepts s patterns (subject_names s) (all_members s) }

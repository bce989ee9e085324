use Rattle.std.proofs.Common.{◌∙◌, ap, map}
use Rattle.std.specs.Prelude.{codes}
use Rattle.theory_definitions.specs.Keywords.{own}
use Rattle.schema_reports.specs.ReportViews.{spoken}
use Rattle.keyword_authoring.specs.Members.{subject_names}
use Rattle.keyword_authoring.specs.Ways.{plain}
use Rattle.standard_pattern_properties.specs.Gates.{told}
use Rattle.standard_pattern_properties.specs.GatedKeywords.{unexpected_text}
use Rattle.standard_pattern_properties.specs.Present.{all_members}
use Rattle.standard_pattern_properties.proofs.Meant.{names_mean, no_others_mean, told_faults}
use Rattle.standard_pattern_properties.proofs.meanings.no_additional_properties_means.Goals as goal

pub returns : goal.returns
returns c = record {
  holds = λ texts s matching beside accepts. no_others_mean matching s beside texts unexpected_text (subject_names s) (all_members s);
  error = λ texts s matching beside answers. told_faults texts (codes "additionalProperties") _
      ∙ ap (λ ks. map (λ t. own (plain (codes "additionalProperties") (spoken texts t))) (told unexpected_text ks)) (names_mean matching s beside (subject_names s) (all_members s));
}

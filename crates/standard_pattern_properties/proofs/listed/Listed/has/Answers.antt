use Rattle.std.proofs.Common.{◌∙◌, ap}
use Rattle.keyword_authoring.specs.Texts.{is_among}
use Rattle.standard_pattern_properties.proofs.ListedNames.{has_text}
use Rattle.standard_pattern_properties.proofs.listed.Listed.has.Goals as goal

pub returns : goal.returns
returns c = record { has = c.contains.ensures ∙ (has_text c.args.name.now c.self.inside.names.keys ∙ ap (λ names. is_among names c.args.name.now) c.self.view_is) }

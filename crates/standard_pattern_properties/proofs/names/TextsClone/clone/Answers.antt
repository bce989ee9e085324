use Rattle.std.proofs.Common.{◌∙◌}
use Rattle.standard_pattern_properties.proofs.ListedNames.{cloned_alike}
use Rattle.standard_pattern_properties.proofs.names.TextsClone.clone.Goals as goal

pub returns : goal.returns
returns c = record { cases = cloned_alike c.self.inside.items.items c.in_ok-items.items.items c.in_ok-items.ensures.cases.0 ∙ c.self.view_is }

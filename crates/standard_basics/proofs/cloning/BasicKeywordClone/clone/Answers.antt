use Rattle.std.proofs.Common.{◌∙◌, ap, sym}
use Rattle.std.specs.Prelude.{string_bytes}
use Rattle.standard_basics.specs.BasicShape.{requires}
use Rattle.standard_basics.specs.Shapes.{shape_of}
use Rattle.standard_basics.proofs.ToldAlike.{told_alike}
use Rattle.standard_basics.proofs.cloning.BasicKeywordClone.clone.Goals as goal

pub returns-in_ok-clone-in-Required : goal.returns-in_ok-clone-in-Required
returns-in_ok-clone-in-Required c = record { cases = ap requires (told_alike string_bytes c.in-Required.names.items c.in_ok-clone-in-Required.field-0.items c.in_ok-clone-in-Required.ensures.cases.0) ∙ ap shape_of (sym c.in-Required.is) }

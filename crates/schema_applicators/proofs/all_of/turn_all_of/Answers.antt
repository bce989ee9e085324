use Rattle.std.proofs.Common.{◌∙◌, sym}
use Rattle.keyword_authoring.specs.Items.{child_here}
use Rattle.schema_applicators.proofs.all_of.turn_all_of.Goals as goal

pub returns-clause-turns : goal.returns-clause-turns
returns-clause-turns c = λ texts. c.in_ok-number.ensures.turns texts child_here

pub returns-clause-steps : goal.returns-clause-steps
returns-clause-steps c = λ texts. c.in_ok-number.ensures.steps texts child_here ∙ sym c.ask_here.ensures.step

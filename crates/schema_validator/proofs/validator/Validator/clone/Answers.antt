use Rattle.std.proofs.Common.{◌∙◌, ap, subst}
use Rattle.schema_compiled.specs.Cloned.{AnswerSame, SaySame}
use Rattle.schema_compiled.specs.Program.{Program}
use Rattle.schema_validator.proofs.validator.Validator.clone.Goals as goal

pub returns-clause-says : goal.returns-clause-says
returns-clause-says g c = subst (λ (p : Program g.row.K.Denot g.row.M.Denot). SaySame g.K.Validate g.M.Matcher c.in_ok-clone.field-0 p) c.self.view_is c.in_ok-clone.ensures.says

pub returns-clause-answers : goal.returns-clause-answers
returns-clause-answers g c = subst (λ (p : Program g.row.K.Denot g.row.M.Denot). AnswerSame g.K.Validate g.M.Matcher c.in_ok-clone.field-0 p) c.self.view_is c.in_ok-clone.ensures.answers

pub returns-clause-finishing : goal.returns-clause-finishing
returns-clause-finishing g c = c.in_ok-clone.ensures.finishing ∙ ap (λ (p : Program g.row.K.Denot g.row.M.Denot). g.M.Matcher.finishing p.matcher) c.self.view_is

use Rattle.std.proofs.Common.{◌∙◌, ap, sym}
use Rattle.std.specs.Prelude.{is_some}
use Rattle.schema_validator.proofs.validator.Validator.limit_named.Goals as goal

pub returns-in-Some : goal.returns-in-Some
returns-in-Some g c = record {
  limit = sym c.work_limit.ensures.work ∙ c.in-Some.is;
  named = c.in-WorkLimit.is;
  steps = λ _. ap is_some (sym c.in-Some.is ∙ c.work_limit.ensures.work);
  depth = λ is. absurd (let f : ⊥ = cc (is, c.in-WorkLimit.is) in f);
}

use Rattle.std.proofs.Common.{◌≡◌, pos, subst, true}
use Rattle.json_values.specs.Numbers.{is_whole}
use Rattle.json_values.proofs.Dividing.{integer_is_whole}
use Rattle.json_values.proofs.wholes.is_whole.Goals as goal

pub returns-in-Natural : goal.returns-in-Natural
returns-in-Natural c = record { whole = subst (λ v. true ≡ is_whole v) c.in-Natural.ensures.view (integer_is_whole (pos c.in-Natural.field-0)) }

pub returns-in-Negative : goal.returns-in-Negative
returns-in-Negative c = record { whole = subst (λ v. true ≡ is_whole v) c.in-Negative.ensures.view (integer_is_whole c.in-Negative.field-0) }

pub returns-in-Fraction : goal.returns-in-Fraction
returns-in-Fraction c = record { whole = subst (λ v. c.is_whole_float.result ≡ is_whole v) c.in-Fraction.ensures.view c.is_whole_float.ensures.whole }

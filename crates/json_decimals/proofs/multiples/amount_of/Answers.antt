use Rattle.std.proofs.Common.{rules, ◌∙◌, ◌*◌, ◌^◌, ap, subst, SFits, w64, to_z-of_z}
use Rattle.json_decimals.specs.Amounts.{IsAmountOf}
use Rattle.json_decimals.specs.Decimals.{size_of, written}
use Rattle.json_decimals.proofs.Worths.{finite_size, integer_amount, natural_amount, sign_dropped}
use Rattle.json_decimals.proofs.multiples.amount_of.Goals as goal

pub returns-in-Natural : goal.returns-in-Natural
returns-in-Natural c =
    let r = c.reduced in
    record { amount = subst (λ v. IsAmountOf (size_of v) r.result) c.in-Natural.ensures.view (natural_amount c.in-Natural.n r.result r.ensures.units r.ensures.reduced) }

pub returns-in-Negative : goal.returns-in-Negative
returns-in-Negative c =
    let r = c.reduced-in-Negative in
    let fits : SFits w64 c.in-Negative.n = search rules in
    let magnitude = simp to_z-of_z at c.unsigned_abs.ensures.value in
    record {
      amount = subst (λ v. IsAmountOf (size_of v) r.result) c.in-Negative.ensures.view
          (integer_amount c.in-Negative.n r.result (r.ensures.units ∙ ap (λ n. n * 2 ^ 1074 * 5 ^ 400) magnitude) r.ensures.reduced);
    }

pub written_amount-requires-clause-finite : goal.written_amount-requires-clause-finite
written_amount-requires-clause-finite c = finite_size c.in-Fraction.x c.abs.result c.abs.ensures.value c.in-Fraction.ensures.proper

pub written_amount-requires-clause-positive : goal.written_amount-requires-clause-positive
written_amount-requires-clause-positive c = sign_dropped c.in-Fraction.x c.abs.result c.abs.ensures.value

pub returns-in-Fraction : goal.returns-in-Fraction
returns-in-Fraction c =
    let r = c.written_amount in
    let size = subst (λ y. IsAmountOf (written y) r.result) c.abs.ensures.value r.ensures.amount in
    record { amount = subst (λ v. IsAmountOf (size_of v) r.result) c.in-Fraction.ensures.view size }

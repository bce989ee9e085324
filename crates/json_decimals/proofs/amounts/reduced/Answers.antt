use Rattle.std.proofs.Common.{◌*◌, ◌^◌, ◌∙◌, ap, arith, w64}
use Rattle.std.proofs.lemmas.Nat.Bits.{bit_at-trailing_zeros}
use Rattle.json_values.proofs.Sizing.{shifted_units}
use Rattle.json_decimals.proofs.amounts.reduced.Goals as goal

pub without_fives-requires-clause-some : goal.without_fives-requires-clause-some
without_fives-requires-clause-some c =
    let odd = (bit_at-trailing_zeros w64 c.args.digits (omega arith) c.ranges.digits.fits).1 in
    omega (arith, odd)

pub without_fives-requires-clause-odd : goal.without_fives-requires-clause-odd
without_fives-requires-clause-odd c = (bit_at-trailing_zeros w64 c.args.digits (omega arith) c.ranges.digits.fits).1

pub returns-clause-units : goal.returns-clause-units
returns-clause-units c = c.without_fives.ensures.units ∙ ap (λ n. n * 5 ^ c.args.fives) (shifted_units c.args.digits c.args.twos)

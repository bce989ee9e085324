use Rattle.std.proofs.Common.{arith, inr, w64}
use Rattle.std.proofs.lemmas.Nat.Bits.{bit_at-trailing_zeros}
use Rattle.json_values.proofs.Sizing.{shifted_units}
use Rattle.json_values.proofs.wholes.reduced.Goals as goal

pub returns-clause-units : goal.returns-clause-units
returns-clause-units c = shifted_units c.args.digits c.args.power

pub returns-clause-odd : goal.returns-clause-odd
returns-clause-odd c = inr (bit_at-trailing_zeros w64 c.args.digits (omega arith) c.ranges.digits.fits).1

use Rattle.std.proofs.Common.{◌≡◌, ◌∙◌, ap, arith}
use Rattle.json_decimals.proofs.Exponents.{exponent, reads_at}
use Rattle.std.specs.Float.{binary64}
use Rattle.std.proofs.Common.{false}
use Rattle.fast_float.specs.Rounding.{nearest_to_decimal}
use Rattle.json_decimals.proofs.decimals.read.Goals as goal

pub returns : goal.returns
returns c =
    record {
      value = λ few.
          let same : c.min.result ≡ c.args.power = omega (arith, c.min.ensures) in
          c.from_parts.ensures ∙ ap (λ p. nearest_to_decimal binary64 false c.args.digits (exponent p)) same ∙ reads_at c.args.digits c.args.power few;
    }

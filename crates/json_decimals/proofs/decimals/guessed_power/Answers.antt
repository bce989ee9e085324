use Rattle.json_values.proofs.Sizing.{no_nan}
use Rattle.json_decimals.proofs.decimals.guessed_power.Goals as goal

pub float_to_bits-exponent : goal.float_to_bits-exponent
float_to_bits-exponent c = no_nan c.args.x c.requires.finite

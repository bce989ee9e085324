use Rattle.std.proofs.Common.{◌≡◌, ◌∙◌, rules}
use Rattle.std.specs.Float.{binary64, float_key}
use Rattle.std.specs.Float.Ieee
use Rattle.json_values.proofs.RoundedKeys.{key_of_fitting}
use Rattle.json_values.proofs.distinct.key_of_float.Goals as goal

pub returns-then-is_nan : goal.returns-then-is_nan
returns-then-is_nan c =
    let bits : 9223372036854775808 ≡ float_key binary64 c.args.x = search rules in
    record { key = bits ∙ key_of_fitting c.args.x c.well_formed.0.1 }

pub returns-then-bits : goal.returns-then-bits
returns-then-bits c =
    let bits : 0 ≡ float_key binary64 c.args.x = search rules in
    record { key = bits ∙ key_of_fitting c.args.x c.well_formed.0.1 }

pub returns-else-bits : goal.returns-else-bits
returns-else-bits c =
    let bits : Ieee.to_bits binary64 c.args.x ≡ float_key binary64 c.args.x = search rules in
    record { key = bits ∙ key_of_fitting c.args.x c.well_formed.0.1 }

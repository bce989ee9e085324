use Rattle.std.specs.Bool.{passes}
use Rattle.json_values.specs.Sizes.{one}
use Rattle.json_values.proofs.Sizing.{no_nan, normal_size, small_size}
use Rattle.json_decimals.specs.Decimals.{exact}
use Rattle.json_decimals.proofs.Worths.{amount_is, float_worth}
use Rattle.json_decimals.proofs.amounts.exact_amount.Goals as goal

pub float_to_bits-bits : goal.float_to_bits-bits
float_to_bits-bits c = no_nan c.args.x c.requires.finite

pub returns-then-bits-lt4503599627370496 : goal.returns-then-bits-lt4503599627370496
unfolding one
returns-then-bits-lt4503599627370496 c =
    let fits = passes _ c.well_formed.0.1 in
    let worth = float_worth c.args.x _ (small_size c.args.x fits c.requires.finite c.if-bits-lt4503599627370496.true) in
    record { amount = amount_is (exact c.args.x) c.reduced.result _ c.reduced.ensures.units c.reduced.ensures.reduced worth }

pub returns-else-bits-lt4503599627370496 : goal.returns-else-bits-lt4503599627370496
unfolding one
returns-else-bits-lt4503599627370496 c =
    let fits = passes _ c.well_formed.0.1 in
    let r = c.reduced-else-bits-lt4503599627370496 in
    let worth = float_worth c.args.x _ (normal_size c.args.x fits c.requires.finite c.if-bits-lt4503599627370496.false) in
    record { amount = amount_is (exact c.args.x) r.result _ r.ensures.units r.ensures.reduced worth }

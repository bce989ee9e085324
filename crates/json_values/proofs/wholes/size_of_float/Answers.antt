use Rattle.std.proofs.Common.{◌∙◌, ◌*◌, ap, sym}
use Rattle.std.specs.Bool.{passes}
use lib.Ieee.Positive.{den}
use Rattle.json_values.proofs.Sizing.{no_nan, normal_size, small_size}
use Rattle.json_values.proofs.wholes.size_of_float.Goals as goal

pub float_to_bits-bits : goal.float_to_bits-bits
float_to_bits-bits c = no_nan c.args.x c.requires.finite

pub returns-then-bits-lt4503599627370496 : goal.returns-then-bits-lt4503599627370496
returns-then-bits-lt4503599627370496 c =
    let fits = passes _ c.well_formed.0.1 in
    record { size = (small_size c.args.x fits c.requires.finite c.if-bits-lt4503599627370496.true ∙ sym (ap (λ n. n * den c.args.x) c.reduced.ensures.units), c.reduced.ensures.odd) }

pub returns-else-bits-lt4503599627370496 : goal.returns-else-bits-lt4503599627370496
returns-else-bits-lt4503599627370496 c =
    let fits = passes _ c.well_formed.0.1 in
    let r = c.reduced-else-bits-lt4503599627370496.ensures in
    record { size = (normal_size c.args.x fits c.requires.finite c.if-bits-lt4503599627370496.false ∙ sym (ap (λ n. n * den c.args.x) r.units), r.odd) }

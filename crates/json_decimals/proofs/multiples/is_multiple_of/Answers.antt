use Rattle.serde_json.specs.View.{number_view}
use Rattle.json_decimals.specs.Decimals.{size_of}
use Rattle.json_decimals.specs.Multiples.{is_multiple_of}
use Rattle.json_decimals.proofs.Worths.{naturals, under_pos}
use Rattle.json_decimals.proofs.multiples.is_multiple_of.Goals as goal

pub returns-in-Some-Some : goal.returns-in-Some-Some
returns-in-Some-Some c =
    let k = c.in-Some-Some in
    record { multiple = naturals (number_view c.args.number.now) (number_view c.args.divisor.now) k.n k.d k.ensures k.ensures' }

pub returns-in_default : goal.returns-in_default
unfolding is_multiple_of
returns-in_default c =
    let x = number_view c.args.number.now in
    let d = number_view c.args.divisor.now in
    record {
      multiple = c.is_multiple_of.ensures.multiple (size_of x) (size_of d) c.amount_of.ensures.amount c.amount_of-in_default.ensures.amount (under_pos x) (under_pos d);
    }

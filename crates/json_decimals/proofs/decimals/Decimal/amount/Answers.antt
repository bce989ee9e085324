use Rattle.json_decimals.specs.Decimals.{decimal}
use Rattle.json_decimals.proofs.Worths.{amount_is, decimal_worth}
use Rattle.json_decimals.proofs.decimals.Decimal.amount.Goals as goal

pub returns : goal.returns
returns c =
    record {
      amount = amount_is (decimal c.args.self.digits c.args.self.power) c.reduced.result _ c.reduced.ensures.units c.reduced.ensures.reduced
          (decimal_worth c.args.self.digits c.args.self.power);
    }

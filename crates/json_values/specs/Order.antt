-- The order of numbers is total: of two numbers one is less, or both are the same. (JSON Schema
-- Validation 2020-12, 6.2.2 to 6.2.5)
use Rattle.std.specs.Cmp.{IsTotalOrder, on_total}
use Rattle.std.proofs.lemmas.Float.{nan_last}
use Rattle.json_values.specs.Numbers.{order, value_of}

pub order_total : IsTotalOrder order
order_total = on_total value_of nan_last

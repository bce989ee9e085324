use Rattle.std.proofs.Common.{◌∙◌, eq-eqb}
use Rattle.json_values.proofs.Dividing.{whole_by_power, whole_nothing}
use Rattle.json_values.proofs.wholes.is_whole_float.Goals as goal

pub returns-then-size-eq0 : goal.returns-then-size-eq0
returns-then-size-eq0 c = record { whole = eq-eqb _ _ c.if-size-eq0.true ∙ whole_nothing _ c.size_of_float-size.result c.size_of_float-size.ensures.size c.if-size-eq0.true }

pub returns-else-size-eq0 : goal.returns-else-size-eq0
returns-else-size-eq0 c = record { whole = whole_by_power _ c.size_of_float-size.result c.size_of_float-size.ensures.size c.if-size-eq0.false }

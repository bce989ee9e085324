use Rattle.schema_compiler.proofs.agreeing.keys_are_found_in_one_order.Goals as goal
use Rattle.schema_compiler.proofs.TablesAgree as lemmas

pub returns : goal.returns
returns g c = record { one_order = λ w. lemmas.one_order_found w }

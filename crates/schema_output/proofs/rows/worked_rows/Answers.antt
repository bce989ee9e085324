use Rattle.std.specs.Prelude.{refl}
use Rattle.serde_json.proofs.OnLiterals.{serde_json_on_literals}
use Rattle.schema_output.proofs.rows.worked_rows.Goals as goal

pub returns : goal.returns
unfolding serde_json_on_literals
returns c = record { string_is_listed = refl; refused_is_listed = refl; first_error_stands = refl; error_is_listed = refl }

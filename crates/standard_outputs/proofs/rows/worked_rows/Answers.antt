use Rattle.std.specs.Prelude.{refl}
use Rattle.serde_json.proofs.OnLiterals.{serde_json_on_literals}
use Rattle.standard_outputs.proofs.rows.worked_rows.Goals as goal

pub returns : goal.returns
unfolding serde_json_on_literals
returns c = record {
  read_only_annotates = refl;
  names_are_escaped = refl;
  point_is_refused = refl;
  bar_prop_is_refused = refl;
  bar_is_refused = refl;
  example_is_refused = refl;
  escaped_is_apart = refl;
}

use Rattle.theory_meaning.proofs.rows.worked_rows.Goals as goal
use Rattle.theory_meaning.proofs.WorkedRows as rows
use Rattle.theory_meaning.proofs.FusedRows as fused
use Rattle.theory_meaning.proofs.RowsNumbered.{turning_is_numbered}

pub returns : goal.returns
returns c = record {
  roots_are_roots = rows.roots_are_roots;
  text_is_string = rows.text_is_string;
  number_is_no_string = rows.number_is_no_string;
  not_is_taken_apart = rows.not_is_taken_apart;
  not_is_refused = rows.not_is_refused;
  not_shares_no_error = rows.not_shares_no_error;
  either_is_taken_apart = rows.either_is_taken_apart;
  either_is_accepted = rows.either_is_accepted;
  long_shares_one_error = rows.long_shares_one_error;
  long_verdict_is_whole = rows.long_verdict_is_whole;
  long_errors_are_taken_apart = rows.long_errors_are_taken_apart;
  nested_is_refused = rows.nested_is_refused;
  nested_does_not_return = rows.nested_does_not_return;
  chain_is_refused = rows.chain_is_refused;
  embedded_counts_from_its_resource = rows.embedded_counts_from_its_resource;
  self_is_no_keyword = rows.self_is_no_keyword;
  turning_returns = rows.turning_returns;
  turning_is_numbered = turning_is_numbered;
  turning_is_accepted = rows.turning_is_accepted;
  fused_has_units = fused.fused_has_units;
  fused_has_one_error = fused.fused_has_one_error;
  fused_keeps_units = fused.fused_keeps_units;
}

use Rattle.theory_fixed_points.proofs.cycle_rows.worked_cycle_rows.Goals as goal
use Rattle.theory_fixed_points.proofs.Computed as rows

pub returns : goal.returns
returns c = record {
  two_refuse_number = rows.two_refuse_number;
  two_accept_text = rows.two_accept_text;
  any_or_match_accepts = rows.any_or_match_accepts;
  all_and_match_refuses = rows.all_and_match_refuses;
}

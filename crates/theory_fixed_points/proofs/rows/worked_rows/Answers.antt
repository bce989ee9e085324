use Rattle.theory_fixed_points.proofs.rows.worked_rows.Goals as goal
use Rattle.theory_fixed_points.proofs.WorkedRows as rows

pub returns : goal.returns
returns c = record {
  any_comes_back = rows.any_comes_back;
  any_accepts_number = rows.any_accepts_number;
  all_comes_back = rows.all_comes_back;
  all_refuses_number = rows.all_refuses_number;
  all_accepts_text = rows.all_accepts_text;
}

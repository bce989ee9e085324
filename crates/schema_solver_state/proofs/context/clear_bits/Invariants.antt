use Rattle.std.proofs.Common.{◌≡◌, ◌&&◌, ℕ, not, take}
use Rattle.schema_run_context.specs.Rows.{AreWide, has_bit, has_words, row_in}
use Rattle.schema_solver_state.specs.ContextViews.{has_number_pair}
use Rattle.schema_solver_state.proofs.context.clear_bits.Given as goal

abbrev pub invariant-loop-pair : goal.invariant-loop-pair
invariant-loop-pair l = record {
  bits : (n k : ℕ) → has_bit (row_in l.rows n) k ≡ (has_bit (row_in l.initial.rows n) k && not (has_number_pair (take l.pair-index l.pairs) n k));
  wide : (w : ℕ) → AreWide w l.initial.rows → AreWide w l.rows;
  there : (n : ℕ) → has_words (row_in l.rows n) ≡ has_words (row_in l.initial.rows n);
}

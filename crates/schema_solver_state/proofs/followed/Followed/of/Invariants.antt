use Rattle.std.proofs.Common.{◌≡◌, ◌<◌, ◌||◌, ◌&&◌, ℕ, false, get_or, leb, length}
use Rattle.schema_solver_state.specs.Following.{is_settled_in, ways_in, weight_in}
use Rattle.schema_solver_state.proofs.followed.Followed.of.Given as goal

abbrev pub invariant-loop-number : goal.invariant-loop-number
invariant-loop-number g l = record {
  each : length l.numbers.items ≡ l.number;
  followed : (i : ℕ) → i < l.number → get_or l.numbers.items i false ≡ (leb (ways_in l.nodes i) 1 || (is_settled_in l.nodes i && leb (weight_in l.weights.items i) 254));
}

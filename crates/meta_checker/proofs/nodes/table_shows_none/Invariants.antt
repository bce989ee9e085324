use Rattle.std.proofs.Common.{◌≡◌, true, take}
use Rattle.meta_checker.specs.Shown.{table_is_whole}
use Rattle.meta_checker.proofs.nodes.table_shows_none.Given as goal

abbrev pub invariant-loop-number : goal.invariant-loop-number
invariant-loop-number g l = table_is_whole (λ k. g.K.Validate.is_whole (g.K.Validate.shape k)) (take l.number l.nodes) ≡ true

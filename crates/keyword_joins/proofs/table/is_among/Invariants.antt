use Rattle.std.proofs.Common.{◌≡◌, bytes_eq, drop}
use Rattle.std.specs.List.{list_any}
use Rattle.keyword_joins.proofs.table.is_among.Given as goal

abbrev pub invariant-loop-other : goal.invariant-loop-other
invariant-loop-other l = list_any (λ k. bytes_eq l.name k.now) l.names ≡ list_any (λ k. bytes_eq l.name k.now) (drop l.other-index l.names)

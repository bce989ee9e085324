use Rattle.std.proofs.Common.{◌≡◌, drop, nat_eq}
use Rattle.std.specs.List.{list_any}
use Rattle.standard_resolver.proofs.states.has_number.Given as goal

abbrev pub invariant-loop-other : goal.invariant-loop-other
invariant-loop-other l = list_any (nat_eq l.number) l.numbers ≡ list_any (nat_eq l.number) (drop l.other-index l.numbers)

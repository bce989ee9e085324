use Rattle.schema_keys.proofs.Chains.{Seeks, steps_left}
use Rattle.schema_keys.proofs.keys.find.Given as goal

abbrev pub invariant-loop-next : goal.invariant-loop-next
invariant-loop-next g l = Seeks g.R.Resolver.point g.R.State.Hash.hash_input (λ s t e. g.met.R.State.Hash.respects_eq s t ((g.met.R.Resolver.equal s t).1 e)) l.keys l.key l.next

abbrev pub decreases-loop-next : goal.decreases-loop-next
decreases-loop-next g l = steps_left l.next

use Rattle.std.proofs.Common.{subst}
use Rattle.theory_definitions.specs.Instance.{Place}
use Rattle.schema_places.proofs.Closing.{stands}
use Rattle.schema_run_context.specs.Progress.{Enters, places_in}
use Rattle.schema_run_context.proofs.Pairs.{enters_fresh}
use Rattle.schema_run_steps.specs.GuardedPairs.{place_of}
use Rattle.schema_run_steps.proofs.guarded.GuardedPair.enter.Goals as goal

pub enter-requires : goal.enter-requires
enter-requires c = record { known = (stands (place_of c.args.self.now) (places_in c.args.context.now) c.args.self.now.number c.requires.numbered).0 }

pub returns-clause-entered : goal.returns-clause-entered
returns-clause-entered c =
    let n = c.args.self.now.node.0 in
    let old = c.args.context.now in
    let new = c.enter.new.self.in_progress in
    let at = (stands (place_of c.args.self.now) (places_in old) c.args.self.now.number c.requires.numbered).1 in
    let enters = subst (λ (p : Place). Enters n p old.in_progress c.in_ok-_was_there._was_there new) at c.in_ok-_was_there.ensures.enters in
    enters_fresh n (place_of c.args.self.now) old.in_progress c.in_ok-_was_there._was_there new enters c.requires.is_new

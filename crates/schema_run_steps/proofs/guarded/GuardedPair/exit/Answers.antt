use Rattle.std.proofs.Common.{subst, sym}
use Rattle.theory_definitions.specs.Instance.{Place}
use Rattle.schema_places.proofs.Closing.{stands}
use Rattle.schema_run_context.specs.Progress.{EndsWith, places_in}
use Rattle.schema_run_steps.specs.GuardedPairs.{place_of}
use Rattle.schema_run_steps.proofs.guarded.GuardedPair.exit.Goals as goal

pub exit-requires-clause-known : goal.exit-requires-clause-known
exit-requires-clause-known c = (stands (place_of c.args.self.now) (places_in c.args.context.now) c.args.self.now.number c.requires.numbered).0

pub exit-requires-clause-last : goal.exit-requires-clause-last
exit-requires-clause-last c =
    let at = (stands (place_of c.args.self.now) (places_in c.args.context.now) c.args.self.now.number c.requires.numbered).1 in
    subst (λ (p : Place). EndsWith c.args.self.now.node.0 p c.args.context.now.in_progress) (sym at) c.requires.last

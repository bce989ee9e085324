use Rattle.std.proofs.Common.{subst, sym}
use Rattle.theory_definitions.specs.Instance.{Place}
use Rattle.schema_places.proofs.Closing.{stands}
use Rattle.schema_run_context.specs.Progress.{EndsWith}
use Rattle.schema_solver_state.specs.Contexts.{solver_places}
use Rattle.schema_solver_state.specs.SolverPairs.{place_of}
use Rattle.schema_solver_state.proofs.pair.SolverPair.exit.Goals as goal

pub exit-requires-clause-known : goal.exit-requires-clause-known
exit-requires-clause-known c = (stands (place_of c.args.self.now) (solver_places c.args.context.now) c.args.self.now.number c.requires.numbered).0

pub exit-requires-clause-last : goal.exit-requires-clause-last
exit-requires-clause-last c =
    let n = c.args.self.now.node.0 in
    let x = c.args.context.now in
    let at = (stands (place_of c.args.self.now) (solver_places c.args.context.now) c.args.self.now.number c.requires.numbered).1 in
    subst (λ (p : Place). EndsWith n p x.in_progress) (sym at) c.requires.last

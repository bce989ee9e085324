use Rattle.std.proofs.Common.{◌≡◌, false, subst, sym}
use Rattle.std.specs.Prelude.{OnOk}
use Rattle.theory_definitions.specs.Instance.{Place}
use Rattle.schema_places.proofs.Closing.{stands}
use Rattle.schema_solver_state.specs.Contexts.{has_pair, solver_places}
use Rattle.schema_solver_state.specs.Answering.{Begins}
use Rattle.schema_solver_state.specs.SolverPairs.{place_of}
use Rattle.schema_solver_state.proofs.pair.SolverPair.enter.Goals as goal

pub enter-requires-clause-known : goal.enter-requires-clause-known
enter-requires-clause-known c = (stands (place_of c.args.self.now) (solver_places c.args.context.now) c.args.self.now.number c.requires.numbered).0

pub enter-requires-clause-is_new : goal.enter-requires-clause-is_new
enter-requires-clause-is_new c =
    let n = c.args.self.now.node.0 in
    let x = c.args.context.now in
    let at = (stands (place_of c.args.self.now) (solver_places c.args.context.now) c.args.self.now.number c.requires.numbered).1 in
    subst (λ (p : Place). has_pair x.in_progress n p ≡ false) (sym at) c.requires.is_new

pub returns-clause-begins : goal.returns-clause-begins
returns-clause-begins c =
    let n = c.args.self.now.node.0 in
    let x = c.args.context.now in
    let at = (stands (place_of c.args.self.now) (solver_places c.args.context.now) c.args.self.now.number c.requires.numbered).1 in
    subst (λ (p : Place). OnOk c.enter.result (Begins n p x c.enter.new.self)) at c.enter.ensures.begins

use Rattle.std.proofs.Common.{◌≡◌, false, subst}
use Rattle.std.specs.Prelude.{IfSome, None}
use Rattle.theory_definitions.specs.Instance.{Place}
use Rattle.schema_places.proofs.Closing.{stands}
use Rattle.schema_run_context.specs.Verdicts.{verdict_of}
use Rattle.schema_solver_state.specs.Contexts.{has_pair, solver_places}
use Rattle.schema_solver_state.specs.Answering.{IsFound}
use Rattle.schema_solver_state.specs.SolverPairs.{place_of}
use Rattle.schema_solver_state.proofs.pair.SolverPair.state.Goals as goal

pub state-requires : goal.state-requires
state-requires c = record { known = (stands (place_of c.args.self.now) (solver_places c.args.context.now) c.args.self.now.number c.requires.numbered).0 }

pub returns-clause-known : goal.returns-clause-known
returns-clause-known c =
    let n = c.args.self.now.node.0 in
    let x = c.args.context.now in
    let at = (stands (place_of c.args.self.now) (solver_places c.args.context.now) c.args.self.now.number c.requires.numbered).1 in
    subst (λ (p : Place). IfSome c.state.result (IsFound n p x)) at c.state.ensures.known

pub returns-clause-unknown : goal.returns-clause-unknown
returns-clause-unknown c =
    let n = c.args.self.now.node.0 in
    let x = c.args.context.now in
    let at = (stands (place_of c.args.self.now) (solver_places c.args.context.now) c.args.self.now.number c.requires.numbered).1 in
    subst (λ (p : Place). c.state.result ≡ None → verdict_of n p x.verdicts ≡ None) at c.state.ensures.unknown

pub returns-clause-idle : goal.returns-clause-idle
returns-clause-idle c =
    let n = c.args.self.now.node.0 in
    let x = c.args.context.now in
    let at = (stands (place_of c.args.self.now) (solver_places c.args.context.now) c.args.self.now.number c.requires.numbered).1 in
    subst (λ (p : Place). c.state.result ≡ None → has_pair x.in_progress n p ≡ false) at c.state.ensures.idle

pub returns-clause-free : goal.returns-clause-free
returns-clause-free c =
    let n = c.args.self.now.node.0 in
    let x = c.args.context.now in
    let at = (stands (place_of c.args.self.now) (solver_places c.args.context.now) c.args.self.now.number c.requires.numbered).1 in
    subst (λ (p : Place). c.state.result ≡ None → has_pair x.assumed n p ≡ false) at c.state.ensures.free

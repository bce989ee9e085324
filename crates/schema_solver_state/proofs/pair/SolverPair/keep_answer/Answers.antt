use Rattle.std.proofs.Common.{◌≡◌, false, subst, true}
use Rattle.std.specs.Prelude.{IfOk}
use Rattle.theory_definitions.specs.Instance.{Place}
use Rattle.schema_places.proofs.Closing.{stands}
use Rattle.schema_solver_state.specs.Answering.{Accepts, Refuses}
use Rattle.schema_solver_state.specs.Contexts.{solver_places}
use Rattle.schema_solver_state.specs.SolverPairs.{place_of}
use Rattle.schema_solver_state.proofs.pair.SolverPair.keep_answer.Goals as goal

pub keep_answer-requires-clause-known : goal.keep_answer-requires-clause-known
keep_answer-requires-clause-known c = (stands (place_of c.args.self.now) (solver_places c.args.context.now) c.args.self.now.number c.requires.numbered).0

pub returns : goal.returns
returns c =
    let n = c.args.self.now.node.0 in
    let x = c.args.context.now in
    let m = c.args.mark in
    let at = (stands (place_of c.args.self.now) (solver_places c.args.context.now) c.args.self.now.number c.requires.numbered).1 in
    let e = c.keep_answer.ensures in
    record {
      valid = e.valid;
      refused = subst (λ (p : Place). IfOk c.keep_answer.result (λ now. c.args.said.valid ≡ false → Refuses n p m x c.keep_answer.new.self)) at e.refused;
      accepted = subst (λ (p : Place). IfOk c.keep_answer.result (λ now. c.args.said.valid ≡ true → Accepts n p m c.args.said now x c.keep_answer.new.self)) at e.accepted;
      unchanged = e.unchanged;
      assumed = e.assumed;
      rest = e.rest;
    }

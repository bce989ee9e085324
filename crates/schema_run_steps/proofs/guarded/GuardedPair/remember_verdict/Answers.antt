use Rattle.std.proofs.Common.{subst}
use Rattle.std.specs.Prelude.{OnOk}
use Rattle.theory_definitions.specs.Instance.{Place}
use Rattle.schema_places.proofs.Closing.{stands}
use Rattle.schema_run_context.specs.Progress.{places_in}
use Rattle.schema_run_context.specs.Verdicts.{Remembers}
use Rattle.schema_run_steps.specs.GuardedPairs.{place_of}
use Rattle.schema_run_steps.proofs.guarded.GuardedPair.remember_verdict.Goals as goal

pub remember_verdict-requires : goal.remember_verdict-requires
remember_verdict-requires c = record { known = (stands (place_of c.args.self.now) (places_in c.args.context.now) c.args.self.now.number c.requires.numbered).0 }

pub returns-clause-kept : goal.returns-clause-kept
returns-clause-kept c =
    let n = c.args.self.now.node.0 in
    let old = c.args.context.now in
    let at = (stands (place_of c.args.self.now) (places_in old) c.args.self.now.number c.requires.numbered).1 in
    subst (λ (p : Place). OnOk c.remember_verdict.result (Remembers n p c.args.verdict old.verdicts c.remember_verdict.new.self.verdicts)) at c.remember_verdict.ensures.kept

use Rattle.std.proofs.Common.{◌∙◌, ap}
use Rattle.theory_definitions.specs.Instance.{Place}
use Rattle.schema_places.proofs.Closing.{stands}
use Rattle.schema_run_context.specs.Progress.{places_in}
use Rattle.schema_run_context.specs.Verdicts.{verdict_of}
use Rattle.schema_run_steps.specs.GuardedPairs.{place_of}
use Rattle.schema_run_steps.proofs.guarded.GuardedPair.lasting_verdict.Goals as goal

pub remembered_verdict-requires : goal.remembered_verdict-requires
remembered_verdict-requires c = record { known = (stands (place_of c.args.self.now) (places_in c.args.context.now) c.args.self.now.number c.requires.numbered).0 }

pub returns : goal.returns
returns c =
    let at = (stands (place_of c.args.self.now) (places_in c.args.context.now) c.args.self.now.number c.requires.numbered).1 in
    record { read = c.remembered_verdict.ensures.read ∙ ap (λ (p : Place). verdict_of c.args.self.now.node.0 p c.args.context.now.verdicts) at }

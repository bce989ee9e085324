use Rattle.std.proofs.Common.{◌∙◌, ap}
use Rattle.theory_definitions.specs.Instance.{Place}
use Rattle.schema_places.proofs.Closing.{stands}
use Rattle.schema_run_context.specs.Progress.{places_in}
use Rattle.schema_run_context.specs.Verdicts.{read_verdict}
use Rattle.schema_run_steps.specs.GuardedPairs.{place_of}
use Rattle.schema_run_steps.proofs.guarded.GuardedPair.remembered_verdict.Goals as goal

pub get_cached_result-requires : goal.get_cached_result-requires
get_cached_result-requires c = record { known = (stands (place_of c.args.self.now) (places_in c.args.context.now) c.args.self.now.number c.requires.numbered).0 }

pub returns : goal.returns
returns c =
    let at = (stands (place_of c.args.self.now) (places_in c.args.context.now) c.args.self.now.number c.requires.numbered).1 in
    record { read = c.get_cached_result.ensures.read ∙ ap (λ (p : Place). read_verdict c.args.self.now.node.0 p c.args.context.now) at }

use Rattle.std.proofs.Common.{◌==◌, ◌∙◌, ap}
use Rattle.std.specs.List.{list_any}
use Rattle.theory_definitions.specs.Instance.{Place}
use Rattle.schema_places.proofs.Closing.{stands}
use Rattle.schema_run_context.specs.Progress.{busy_at, places_in}
use Rattle.schema_run_steps.specs.GuardedPairs.{place_of}
use Rattle.schema_run_steps.proofs.guarded.GuardedPair.is_in_progress.Goals as goal

pub is_in_progress-requires : goal.is_in_progress-requires
is_in_progress-requires c = record { known = (stands (place_of c.args.self.now) (places_in c.args.context.now) c.args.self.now.number c.requires.numbered).0 }

pub returns : goal.returns
returns c =
    let at = (stands (place_of c.args.self.now) (places_in c.args.context.now) c.args.self.now.number c.requires.numbered).1 in
    record { found = c.is_in_progress.ensures.found ∙ ap (λ (p : Place). list_any (λ i. i == c.args.self.now.node.0) (busy_at p c.args.context.now.in_progress)) at }

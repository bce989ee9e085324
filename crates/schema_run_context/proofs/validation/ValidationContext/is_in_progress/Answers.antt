use Rattle.std.proofs.Common.{◌∙◌, ◌==◌, ◌<◌, ap, length, subst, sym}
use Rattle.std.specs.List.{list_any}
use Rattle.schema_places.specs.Numbers.{place_at}
use Rattle.schema_run_context.specs.Progress.{Context, busy_at, places_in}
use Rattle.schema_run_context.proofs.validation.ValidationContext.is_in_progress.Goals as goal

pub returns-clause-found : goal.returns-clause-found
returns-clause-found c =
    let known = subst (λ (x : Context). c.args.place < length (places_in x)) (sym c.self.view_is) c.requires.known in
    c.has_bit.ensures.bit ∙ c.self.invariant.guards.bits c.args.node.0 c.args.place known
    ∙ ap (λ (x : Context). list_any (λ i. i == c.args.node.0) (busy_at (place_at (places_in x) c.args.place) x.in_progress)) c.self.view_is

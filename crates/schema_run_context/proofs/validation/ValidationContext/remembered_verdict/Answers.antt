use Rattle.std.proofs.Common.{◌∙◌, ◌<◌, ap, length, map, subst, sym}
use Rattle.schema_places.specs.Numbers.{place_at}
use Rattle.schema_run_context.specs.ProgressViews.{pair_of}
use Rattle.schema_run_context.specs.Progress.{Context, places_in, root_places}
use Rattle.schema_run_context.specs.Verdicts.{verdict_of}
use Rattle.schema_run_context.proofs.VerdictRows.{read_at}
use Rattle.schema_run_context.proofs.validation.ValidationContext.remembered_verdict.Goals as goal

pub returns : goal.returns
returns c =
    let i = c.self.inside in
    let n = c.args.node.0 in
    let k = c.args.place in
    let ps = root_places i.places in
    let h = c.self.invariant in
    let known = subst (λ (x : Context). k < length (places_in x)) (sym c.self.view_is) c.requires.known in
    let row = read_at n k ps (map (pair_of ps) i.pairs.items) i.known h.numbered h.wide_known known in
    record { read = c.verdict_in.ensures.verdict ∙ row ∙ ap (λ (x : Context). verdict_of n (place_at (places_in x) k) x.verdicts) c.self.view_is }

use Rattle.std.proofs.Common.{◌≡◌, ◌∙◌, Bool, true, false, cond, ap, refl, sym}
use Rattle.std.specs.Prelude.{Option, None}
use Rattle.schema_places.specs.Numbers.{place_at}
use Rattle.schema_run_context.specs.Progress.{places_in}
use Rattle.schema_run_context.specs.Verdicts.{is_alone, verdict_of}
use Rattle.schema_run_context.proofs.validation.ValidationContext.get_cached_result.Goals as goal

none_read : (b : Bool) (o : Option Bool) → None ≡ o → None ≡ cond b o None
none_read true o e = e
none_read false o e = refl

pub returns-in_err-found : goal.returns-in_err-found
returns-in_err-found c =
    let n = c.args.node.0 in
    let old = c.args.self.now in
    let p = place_at (places_in old) c.args.place in
    record { read = c.from_residual.ensures ∙ none_read (is_alone n p old.in_progress) (verdict_of n p old.verdicts) (sym c.in_err-found.was ∙ c.remembered_verdict.ensures.read) }

pub returns-then-is_alone : goal.returns-then-is_alone
returns-then-is_alone c =
    let n = c.args.node.0 in
    let old = c.args.self.now in
    let p = place_at (places_in old) c.args.place in
    record { read = sym c.in_ok-found.was ∙ c.remembered_verdict.ensures.read ∙ ap (λ (b : Bool). cond b (verdict_of n p old.verdicts) None) c.if-is_alone.ensures.alone }

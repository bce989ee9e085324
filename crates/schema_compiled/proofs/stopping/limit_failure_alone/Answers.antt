use Rattle.std.proofs.Common.{◌∙◌, ◌++◌, ◌∷◌, [], List, ap}
use Rattle.schema_reports.specs.declared.reports.ValidationError.{ValidationError}
use Rattle.schema_compiled.proofs.stopping.limit_failure_alone.Goals as goal

pub returns : goal.returns
returns c =
    let failure = c.in_ok-failure.failure in
    record { tells = (failure, c.in_ok-push.ensures.items ∙ ap (λ (es : List ValidationError). es ++ failure ∷ []) c.new-alone.ensures.items, c.in_ok-failure.ensures.tells) }

use Rattle.std.proofs.Common.{◌∙◌, [], ap, sym}
use Rattle.std.proofs.lemmas.List.{append-nil}
use Rattle.schema_run_context.specs.KeptPaths.{PathKey}
use Rattle.schema_run_context.proofs.kept_paths.KeptPath.is.Goals as goal

-- its first bytes do not begin with the path, so they are not the path
pub returns-in-None-clause-other : goal.returns-in-None-clause-other
returns-in-None-clause-other c =
    let none = rw (c.as_bytes.ensures.value, c.as_str-2.ensures.text) at c.in-None.ensures.none in
    λ _ same. none [] (ap (λ (k : PathKey). k.before) (c.self.view_is ∙ same) ∙ sym (append-nil _))

use Rattle.std.specs.Prelude.{Bool, drop, map, ◌≡◌}
use Rattle.std.specs.List.{list_all}
use Rattle.schema_reports.specs.EvaluationResults.{named_of}
use Rattle.schema_reports.proofs.evaluation_result.accepts.Given as goal

-- each result so far is valid
abbrev pub invariant-loop-one : goal.invariant-loop-one
invariant-loop-one l = (texts : Bool) → list_all (λ a. a.valid) (map (named_of texts) l.absorbed) ≡ list_all (λ a. a.valid) (map (named_of texts) (drop l.one-index l.absorbed))

use Rattle.std.proofs.Common.{◌≡◌, map, reverse}
use Rattle.serde_json.specs.View.{members_view}
use Rattle.schema_output.specs.Output.{errors_by_name}
use Rattle.standard_outputs.specs.CodeViews.{errors_seen}
use Rattle.standard_outputs.proofs.hierarchical_units.errors_by_name.Given as goal

-- the last errors so far
abbrev pub invariant-loop-error : goal.invariant-loop-error
invariant-loop-error l = members_view l.object.entries ≡ errors_by_name (errors_seen (reverse (map (λ e. e.now) l.yielded)))

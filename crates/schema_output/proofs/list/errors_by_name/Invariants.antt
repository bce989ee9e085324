use Rattle.std.proofs.Common.{◌≡◌, map, reverse, true}
use Rattle.serde_json.specs.View.{members_view}
use Rattle.schema_reports.specs.UnitViews.{described_of}
use Rattle.schema_output.specs.Output.{errors_by_name}
use Rattle.schema_output.proofs.list.errors_by_name.Given as goal

-- the last errors so far
abbrev pub invariant-loop-error : goal.invariant-loop-error
invariant-loop-error l = members_view l.object.entries ≡ errors_by_name (map (described_of true) (reverse (map (λ e. e.now) l.yielded)))

use Rattle.std.proofs.Common.{◌≡◌}
use Rattle.serde_json.specs.View.{members_view}
use Rattle.standard_assertions.specs.Values.{are_text_lists}
use Rattle.standard_assertions.proofs.values.are_text_lists.Given as goal

abbrev pub invariant-loop-value : goal.invariant-loop-value
invariant-loop-value l = are_text_lists (members_view l.members.entries) ≡ are_text_lists (members_view l.value-iterator)

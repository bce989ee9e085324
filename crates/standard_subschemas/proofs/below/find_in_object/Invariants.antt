use Rattle.std.proofs.Common.{map}
use Rattle.serde_json.specs.Data.{object}
use Rattle.serde_json.specs.View.{members_view}
use Rattle.standard_subschemas.specs.FoundViews.{found_of}
use Rattle.standard_subschemas.proofs.Finding.{OverMembers}
use Rattle.standard_subschemas.proofs.below.find_in_object.Given as goal

abbrev pub invariant-loop-name : goal.invariant-loop-name
invariant-loop-name l = OverMembers (object (members_view l.members.entries)) l.keyword (map found_of l.initial.found.items)
    (map found_of l.found.items) l.name-iterator

use Rattle.std.proofs.Common.{◌≡◌, ◌++◌, List, drop}
use Rattle.serde_json.specs.View.{items_view, members_view}
use Rattle.serde_json.proofs.Views.{Entry}
use Rattle.schema_drafts.specs.KeywordViews.{draft_of}
use Rattle.bench_parts.specs.MetaPlaces.{steps_to}
use Rattle.bench_parts.proofs.MetaFaults.{ItemsLeft, MembersLeft}
use Rattle.bench_parts.proofs.meta.+walk.Given as goal

-- no item so far has a fault
abbrev pub invariant-fault_in_items-loop-index : goal.invariant-fault_in_items-loop-index
invariant-fault_in_items-loop-index l = ItemsLeft (draft_of l.draft) (steps_to l.place) (items_view l.items.items) l.index (items_view (drop l.index l.items.items))

-- no member so far has a fault
abbrev pub invariant-fault_in_members-loop-name : goal.invariant-fault_in_members-loop-name
invariant-fault_in_members-loop-name l = MembersLeft (draft_of l.draft) (steps_to l.place) (members_view l.members.entries) (members_view l.name-iterator)
    × ((done : List Entry) × (l.members.entries ≡ done ++ l.name-iterator))

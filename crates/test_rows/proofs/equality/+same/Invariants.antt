use Rattle.std.proofs.Common.{◌≡◌, drop}
use Rattle.std.specs.Slice.Iter.{iter_rest}
use Rattle.serde_json.specs.View.{items_view, members_view}
use Rattle.test_rows.specs.Equality.{are_same_items, are_same_members}
use Rattle.test_rows.proofs.equality.+same.Given as goal

abbrev pub invariant-are_same_items-loop-item : goal.invariant-are_same_items-loop-item
invariant-are_same_items-loop-item l =
    (goal.iterator-are_same_items-loop-item).can_next l.others ×
    (goal.iterator-are_same_items-loop-item).is_finite l.others ×
    (are_same_items (items_view l.left.items) (items_view l.right.items)
    ≡ are_same_items (items_view (drop l.item-index l.item-items)) (items_view (iter_rest l.others)))

abbrev pub invariant-are_same_members-loop-name : goal.invariant-are_same_members-loop-name
invariant-are_same_members-loop-name l =
    (goal.iterator-are_same_members-loop-name).can_next l.name-iterator ×
    (goal.iterator-are_same_members-loop-name).is_finite l.name-iterator ×
    (are_same_members (members_view l.left.entries) (members_view l.right.entries)
    ≡ are_same_members (members_view l.name-iterator) (members_view l.others))

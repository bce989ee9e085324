use Rattle.std.proofs.Common.{◌≡◌, drop}
use Rattle.std.specs.Slice.Iter.{iter_rest}
use Rattle.serde_json.specs.View.{items_view, members_view}
use Rattle.json_values.specs.Equality.{equal_items, members_walk}
use Rattle.json_values.proofs.equality.+equal.Given as goal

abbrev pub invariant-are_equal_items-loop-item : goal.invariant-are_equal_items-loop-item
invariant-are_equal_items-loop-item l =
    (goal.iterator-are_equal_items-loop-item).can_next l.others ×
    (goal.iterator-are_equal_items-loop-item).is_finite l.others ×
    (equal_items (items_view l.left.items) (items_view l.right.items)
    ≡ equal_items (items_view (drop l.item-index l.item-items)) (items_view (iter_rest l.others)))

abbrev pub invariant-are_equal_in_order-loop-name : goal.invariant-are_equal_in_order-loop-name
invariant-are_equal_in_order-loop-name l =
    (goal.iterator-are_equal_in_order-loop-name).can_next l.name-iterator ×
    (goal.iterator-are_equal_in_order-loop-name).is_finite l.name-iterator ×
    (members_walk (members_view l.left.entries) (members_view l.right.entries)
    ≡ members_walk (members_view l.name-iterator) (members_view l.others))

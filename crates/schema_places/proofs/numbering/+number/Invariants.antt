use Rattle.std.proofs.Common.{◌≡◌, ◌++◌, drop, length}
use Rattle.std.specs.List.Sorted.{IsStrictlySortedBy}
use Rattle.std.specs.Map.{keys_of}
use Rattle.std.specs.String.{string_cmp}
use Rattle.serde_json.specs.View.{items_view, members_view}
use Rattle.schema_places.specs.Rows.{NamesAscendInItems, NamesAscendInMembers, item_rows, member_rows}
use Rattle.schema_places.proofs.numbering.+number.Given as goal

abbrev pub invariant-push_items-loop-item : goal.invariant-push_items-loop-item
invariant-push_items-loop-item l = record {
  rows : l.table ++ item_rows (length l.table) (items_view (drop l.item-index l.items.items)) ≡ l.initial.table ++ item_rows (length l.initial.table) (items_view l.items.items);
  ascend : NamesAscendInItems (items_view (drop l.item-index l.items.items)) → NamesAscendInItems (items_view l.items.items);
}

abbrev pub invariant-push_each-loop-name : goal.invariant-push_each-loop-name
invariant-push_each-loop-name l = record {
  rows : l.table ++ member_rows (length l.table) (members_view l.name-iterator) ≡ l.initial.table ++ member_rows (length l.initial.table) (members_view l.members.entries);
  ascend : NamesAscendInMembers (members_view l.name-iterator) → NamesAscendInMembers (members_view l.members.entries);
  sorted : IsStrictlySortedBy string_cmp (keys_of l.name-iterator);
}

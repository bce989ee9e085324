use Rattle.std.proofs.Common.{◌≡◌, ◌++◌, drop}
use Rattle.serde_json.specs.View.{items_view, members_view}
use Rattle.schema_keys.specs.Compiling.{Each}
use Rattle.schema_keys.specs.DocumentSchemas.{IndicesFit, schemas_in_items, schemas_in_members}
use Rattle.schema_keys.proofs.schemas.+walk.Given as goal

abbrev pub invariant-push_item_schemas-loop-index : goal.invariant-push_item_schemas-loop-index
invariant-push_item_schemas-loop-index l =
    (l.paths.items ++ schemas_in_items l.path l.index (items_view (drop l.index l.items.items)) ≡ l.fn.paths.items ++ schemas_in_items l.path 0 (items_view l.items.items))
    × (IndicesFit l.path → Each IndicesFit l.fn.paths.items → Each IndicesFit l.paths.items)

abbrev pub invariant-push_member_schemas-loop-name : goal.invariant-push_member_schemas-loop-name
invariant-push_member_schemas-loop-name l =
    (l.paths.items ++ schemas_in_members l.path (members_view l.name-iterator) ≡ l.fn.paths.items ++ schemas_in_members l.path (members_view l.members.entries))
    × (IndicesFit l.path → Each IndicesFit l.fn.paths.items → Each IndicesFit l.paths.items)

use Rattle.std.proofs.Common.{◌≡◌, ◌++◌, drop, map, string_bytes}
use Rattle.serde_json.specs.View.{items_view, members_view}
use Rattle.pattern_matcher.specs.SchemaPatterns.{patterns_in_items, patterns_in_members}
use Rattle.pattern_matcher.proofs.documents.+walk.Given as goal

abbrev pub invariant-push_patterns_of_items-loop-item : goal.invariant-push_patterns_of_items-loop-item
invariant-push_patterns_of_items-loop-item l = map string_bytes l.initial.texts.items ++ patterns_in_items (items_view l.items.items)
    ≡ map string_bytes l.texts.items ++ patterns_in_items (items_view (drop l.item-index l.item-items))

abbrev pub invariant-push_patterns_of_members-loop-name : goal.invariant-push_patterns_of_members-loop-name
invariant-push_patterns_of_members-loop-name l = map string_bytes l.initial.texts.items ++ patterns_in_members (members_view l.members.entries)
    ≡ map string_bytes l.texts.items ++ patterns_in_members (members_view l.name-iterator)

use Rattle.std.proofs.Common.{◌≡◌, ◌++◌, map, string_bytes}
use Rattle.serde_json.specs.View.{members_view}
use Rattle.pattern_matcher.specs.SchemaPatterns.{names_of}
use Rattle.pattern_matcher.proofs.documents.push_names.Given as goal

abbrev pub invariant-loop-name : goal.invariant-loop-name
invariant-loop-name l = map string_bytes l.initial.texts.items ++ names_of (members_view l.members.entries)
    ≡ map string_bytes l.texts.items ++ names_of (members_view l.name-iterator)

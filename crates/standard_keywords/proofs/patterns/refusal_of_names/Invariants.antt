use Rattle.std.proofs.Common.{◌≡◌}
use Rattle.serde_json.specs.View.{members_view}
use Rattle.keyword_makers.specs.Members.{names_of}
use Rattle.standard_keywords.specs.Patterns.{refusal_among}
use Rattle.standard_keywords.proofs.patterns.refusal_of_names.Given as goal

abbrev pub invariant-loop-name : goal.invariant-loop-name
invariant-loop-name l = refusal_among (names_of (members_view l.members.entries)) ≡ refusal_among (names_of (members_view l.name-iterator))

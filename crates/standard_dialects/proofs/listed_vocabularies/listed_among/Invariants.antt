use Rattle.std.proofs.Common.{◌≡◌, ◌||◌}
use Rattle.serde_json.specs.View.{members_view}
use Rattle.theory_definitions.specs.Drafts.{Vocabulary, has_vocabulary}
use Rattle.schema_drafts.specs.KeywordViews.{draft_of}
use Rattle.standard_dialects.specs.ListedVocabularies.{listed_among}
use Rattle.standard_dialects.proofs.listed_vocabularies.listed_among.Given as goal

-- the vocabularies so far, and those of the members that are left
abbrev pub invariant-loop-uri : goal.invariant-loop-uri
invariant-loop-uri l = (w : Vocabulary)
    → (has_vocabulary l.set w || has_vocabulary (listed_among (draft_of l.draft) (members_view l.uri-iterator)) w)
    ≡ has_vocabulary (listed_among (draft_of l.draft) (members_view l.members.entries)) w

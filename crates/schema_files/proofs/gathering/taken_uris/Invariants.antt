use Rattle.std.proofs.Common.{◌≡◌, ◌++◌, drop, map, string_bytes}
use Rattle.schema_drafts.specs.KeywordViews.{draft_of}
use Rattle.schema_files.specs.Gathering.{taken_uris}
use Rattle.schema_files.specs.GatheringViews.{supplied_of}
use Rattle.schema_files.proofs.gathering.taken_uris.Given as goal

abbrev pub invariant-loop-document : goal.invariant-loop-document
invariant-loop-document l = taken_uris (draft_of l.draft) (map supplied_of l.supplied)
    ≡ map string_bytes l.taken.items ++ taken_uris (draft_of l.draft) (map supplied_of (drop l.document-index l.supplied))

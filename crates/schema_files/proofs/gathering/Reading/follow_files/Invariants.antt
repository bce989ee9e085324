use Rattle.std.proofs.Common.{map, string_bytes, take}
use Rattle.std.specs.Prelude.{flat_map}
use Rattle.schema_drafts.specs.KeywordViews.{draft_of}
use Rattle.schema_files.specs.Gathering.{AreNew}
use Rattle.schema_files.specs.GatheringViews.{Follows, file_references, uri_of}
use Rattle.schema_files.proofs.gathering.Reading.follow_files.Given as goal

abbrev pub invariant-loop-index : goal.invariant-loop-index
invariant-loop-index g l = record {
  new : AreNew (map string_bytes l.fn.self.taken.now) (map uri_of l.fn.files.items)
      → AreNew (map string_bytes l.fn.self.taken.now) (map uri_of l.files.items);
  follows : Follows (map string_bytes l.fn.self.taken.now) l.fn.files.items l.files.items
      (flat_map (file_references (draft_of l.fn.self.draft)) (take l.index l.files.items));
}

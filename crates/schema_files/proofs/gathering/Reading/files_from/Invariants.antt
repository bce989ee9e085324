use Rattle.std.proofs.Common.{map, string_bytes, take}
use Rattle.std.specs.Prelude.{flat_map}
use Rattle.schema_drafts.specs.KeywordViews.{draft_of}
use Rattle.schema_files.specs.Gathering.{AreNew, supplied_references}
use Rattle.schema_files.specs.GatheringViews.{Lead, supplied_of, uri_of}
use Rattle.schema_files.proofs.gathering.Reading.files_from.Given as goal

abbrev pub invariant-loop-document : goal.invariant-loop-document
invariant-loop-document g l = record {
  new : AreNew (map string_bytes l.fn.self.taken.now) (map uri_of l.files.items);
  follows : Lead (map string_bytes l.fn.self.taken.now) l.files.items
      (flat_map (supplied_references (draft_of l.fn.self.draft)) (map supplied_of (take l.document-index l.supplied)));
}

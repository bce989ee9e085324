use Rattle.std.proofs.Common.{map, string_bytes, take}
use Rattle.schema_files.specs.ReferenceViews.{reference_of}
use Rattle.schema_files.specs.Gathering.{AreNew}
use Rattle.schema_files.specs.GatheringViews.{Follows, uri_of}
use Rattle.schema_files.proofs.gathering.Reading.follow_each.Given as goal

abbrev pub invariant-loop-reference : goal.invariant-loop-reference
invariant-loop-reference g l = record {
  new : AreNew (map string_bytes l.fn.self.taken.now) (map uri_of l.fn.files.items)
      → AreNew (map string_bytes l.fn.self.taken.now) (map uri_of l.files.items);
  follows : Follows (map string_bytes l.fn.self.taken.now) l.fn.files.items l.files.items (map reference_of (take l.reference-index l.references));
}

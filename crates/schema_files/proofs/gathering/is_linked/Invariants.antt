use Rattle.std.proofs.Common.{◌≡◌, drop, map}
use Rattle.schema_files.specs.Gathering.{is_among}
use Rattle.schema_files.specs.GatheringViews.{uri_of}
use Rattle.schema_files.proofs.gathering.is_linked.Given as goal

abbrev pub invariant-loop-file : goal.invariant-loop-file
invariant-loop-file l = is_among l.uri (map uri_of l.files) ≡ is_among l.uri (map uri_of (drop l.file-index l.files))

use Rattle.std.proofs.Common.{◌≡◌, map}
use Rattle.std.specs.Prelude.{fold}
use Rattle.uri_references.specs.Paths.{after_segment, start}
use Rattle.uri_references.specs.Views.{walk_of}
use Rattle.uri_references.proofs.paths.without_dots.Given as goal

abbrev pub invariant-loop-segment : goal.invariant-loop-segment
invariant-loop-segment l = walk_of l.walk ≡ fold after_segment start (map (λ s. s.now) l.yielded)

use Rattle.std.proofs.Common.{◌≡◌, ◌++◌, ◌==◌, drop, length, option_map}
use Rattle.std.specs.List.{slice_split}
use Rattle.serde_json.specs.View.{view}
use Rattle.standard_subschemas.specs.DocumentPointers.{path_named}
use Rattle.standard_subschemas.proofs.pointers.path_of_segments.Given as goal

abbrev pub invariant-loop-segment : goal.invariant-loop-segment
invariant-loop-segment l =
    let named = slice_split (λ b. b == 47) l.segments in
    path_named named (view l.document) ≡ option_map (λ rest. l.path ++ rest) (path_named (drop (length l.yielded) named) (view l.reached))

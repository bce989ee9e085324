use Rattle.std.proofs.Common.{◌≡◌, ◌<◌, ◌-◌, ◌∙◌, arith, get_or}
use Rattle.uri_references.proofs.Cutting.{from_start, slash_is_boundary, slashed}
use Rattle.uri_references.proofs.paths.through_last_slash.Goals as goal
use Rattle.uri_references.proofs.paths.through_last_slash.Goals.{then-loop-end-test+else-bytes-end-ne47, else-loop-end-test}

pub range-requires-clause-end_boundary : goal.range-requires-clause-end_boundary
range-requires-clause-end_boundary c =
    let slash : 0 < c.loop-end.end → get_or c.as_bytes-bytes.result.now (c.loop-end.end - 1) 0 ≡ 47 =
    elim c.loop-end-test.branch [
      | then-loop-end-test+else-bytes-end-ne47 w ↦ λ some. w.if-bytes-end-ne47.false
      | else-loop-end-test w ↦ λ some. absurd (omega (arith, w.loop-end-test.false))
    ] in
    slash_is_boundary c.as_bytes-bytes.result.now c.args.path.now c.loop-end.end c.as_bytes-bytes.ensures.value c.utf8.path c.loop-end.invariant.0 slash

pub returns : goal.returns
returns c =
    let slash : 0 < c.loop-end.end → get_or c.as_bytes-bytes.result.now (c.loop-end.end - 1) 0 ≡ 47 =
    elim c.loop-end-test.branch [
      | then-loop-end-test+else-bytes-end-ne47 w ↦ λ some. w.if-bytes-end-ne47.false
      | else-loop-end-test w ↦ λ some. absurd (omega (arith, w.loop-end-test.false))
    ] in
    let front = slashed c.as_bytes-bytes.result.now c.args.path.now c.loop-end.end c.as_bytes-bytes.ensures.value c.loop-end.invariant.0 c.loop-end.invariant.1 slash in
    record { front = c.range.ensures.value ∙ from_start c.args.path.now c.loop-end.end ∙ front }

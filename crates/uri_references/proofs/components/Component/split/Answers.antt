use Rattle.uri_references.proofs.Cutting.{end_is_boundary}
use Rattle.uri_references.proofs.components.Component.split.Goals as goal

pub range-requires-clause-end_boundary : goal.range-requires-clause-end_boundary
range-requires-clause-end_boundary c = rw (c.end_in-end.ensures.end, c.as_bytes.ensures.value) (end_is_boundary c.args.self c.args.text.now)

pub range_from-requires : goal.range_from-requires
range_from-requires c = λ some. rw (c.end_in-end.ensures.end, c.as_bytes.ensures.value) (end_is_boundary c.args.self c.args.text.now)

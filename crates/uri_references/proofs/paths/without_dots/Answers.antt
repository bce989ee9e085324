use Rattle.std.proofs.Common.{ap, lit<, ◌∙◌}
use Rattle.std.specs.Prelude.{fold}
use Rattle.std.proofs.lemmas.Iterator.Consumers.{YieldsList-end}
use Rattle.std.proofs.lemmas.Iterator.Splits.{YieldsList-from_str_split}
use Rattle.std.proofs.lemmas.Result.{IfOk-weaker}
use Rattle.uri_references.specs.Paths.{after_segment, start, walk_text}
use Rattle.uri_references.proofs.paths.without_dots.Goals as goal

pub returns : goal.returns
returns c =
    let cut = c.split-segment-items.ensures in
    let same = c.into_iter-segment-iterator.ensures.into_iter_gives in
    let pieces = YieldsList-from_str_split {s = c.into_iter-segment-iterator.result} 47 c.args.path.now (lit< tt) (rw same cut.text) (rw same cut.has_more) (rw same cut.pattern) in
    let all = YieldsList-end pieces c.loop-segment.yielded _ c.loop-segment.yielded_by _ _ c.in-None.is c.next.ensures.steps in
    record {
      path = IfOk-weaker c.text.result _ _ (λ s is. is ∙ ap walk_text (c.loop-segment.invariant ∙ ap (fold after_segment start) all.0)) c.text.ensures.text;
    }

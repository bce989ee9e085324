use Rattle.std.proofs.Common.{arith, sym}
use Rattle.std.proofs.lemmas.List.Sums.{position_or_len_is}
use Rattle.uri_references.specs.Components.{ends}
use Rattle.uri_references.proofs.components.Component.end_in.Goals as goal

pub returns-then-ends : goal.returns-then-ends
returns-then-ends c = record {
  end = sym (position_or_len_is (ends c.args.self) c.args.text.now c.loop-place.place 0 (omega arith) c.loop-place.invariant (λ within. sym c.if-ends.ensures.ends));
}

pub returns : goal.returns
returns c = record {
  end = sym (position_or_len_is (ends c.args.self) c.args.text.now _ 0 (omega arith) (λ k below. c.loop-place.invariant k (omega arith)) (λ past. absurd (omega arith)));
}

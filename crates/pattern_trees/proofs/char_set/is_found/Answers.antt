use Rattle.std.proofs.Common.{◌+◌, ◌-◌, ◌/◌, arith, sym}
use Rattle.pattern_trees.proofs.Spans.{either_side, in_set_at}
use Rattle.pattern_trees.proofs.char_set.is_found.Goals as goal

pub returns-else-spans-middle : goal.returns-else-spans-middle
returns-else-spans-middle c =
    let first = c.halves.first in
    let end = c.halves.end in
    let some = c.halves-test.true in
    let inside = c.halves.invariant.inside in
    record { has = sym (in_set_at c.args.spans.now c.args.c (first + (end - first) / 2) (omega arith) c.if-c-spans.false c.if-spans-middle.false) }

pub returns : goal.returns
returns c =
    record { has = sym (either_side c.args.spans.now c.halves.first c.halves.end c.args.c c.halves-test.false c.halves.invariant.below c.halves.invariant.above) }

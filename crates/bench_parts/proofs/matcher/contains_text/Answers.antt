use Rattle.std.proofs.Common.{◌∙◌, sym, arith, drop}
use Rattle.bench_parts.proofs.TextsWithin.{contains_here, contains_later}
use Rattle.bench_parts.proofs.matcher.contains_text.Goals as goal

pub loop-place-preserved : goal.loop-place-preserved
loop-place-preserved c = c.loop-place.invariant ∙ contains_later c.args.pattern.now c.args.text.now c.loop-place.place (omega arith) (sym c.if-begins_at.ensures.begins)

pub returns-then-begins_at : goal.returns-then-begins_at
returns-then-begins_at c = record { contains = sym (c.loop-place.invariant ∙ contains_here c.args.pattern.now (drop c.loop-place.place c.args.text.now) (sym c.if-begins_at.ensures.begins)) }

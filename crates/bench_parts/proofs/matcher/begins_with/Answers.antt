use Rattle.std.proofs.Common.{sym, arith}
use Rattle.bench_parts.proofs.TextsWithin.{begins_with-long}
use Rattle.bench_parts.proofs.matcher.begins_with.Goals as goal

pub returns-then-pattern-text : goal.returns-then-pattern-text
returns-then-pattern-text c = record { begins = sym (begins_with-long c.args.pattern.now c.args.text.now (omega arith)) }

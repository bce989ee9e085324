use Rattle.std.proofs.Common.{arith}
use Rattle.pattern_rows.proofs.Bits.{lowest_is, none_from}
use Rattle.pattern_rows.proofs.word.lowest.Goals as goal

pub returns-then-rest-eq0 : goal.returns-then-rest-eq0
returns-then-rest-eq0 c = record { lowest = none_from c.args.a c.args.from c.if-rest-eq0.true }

pub returns-else-rest-eq0 : goal.returns-else-rest-eq0
returns-else-rest-eq0 c =
    let found = lowest_is c.args.a c.args.from (omega arith) (omega arith) in
    record { lowest = (found.from_on, found.within, found.set, found.first) }

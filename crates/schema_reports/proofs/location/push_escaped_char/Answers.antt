use Rattle.std.proofs.Common.{rules}
use Rattle.schema_reports.proofs.Escaped.{escaped_other}
use Rattle.schema_reports.proofs.location.push_escaped_char.Goals as goal

pub returns-else-c-eq47 : goal.returns-else-c-eq47
returns-else-c-eq47 c = let e = escaped_other c.args.c c.if-c-eq126.false c.if-c-eq47.false in record { escaped = rw e (search rules) }

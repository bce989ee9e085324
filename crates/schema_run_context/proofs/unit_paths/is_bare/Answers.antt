use Rattle.schema_reports.proofs.Escaped.{bare_more}
use Rattle.schema_run_context.proofs.unit_paths.is_bare.Goals as goal

pub loop-byte-preserved : goal.loop-byte-preserved
loop-byte-preserved c = bare_more c.loop-byte.bare c.args.name.now c.loop-byte.byte-index c.loop-byte-test.true c.loop-byte.invariant

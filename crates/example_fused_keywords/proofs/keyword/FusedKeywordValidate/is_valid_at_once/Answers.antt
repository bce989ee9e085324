use Rattle.schema_reports.specs.InstanceViews.{subject_of}
use Rattle.standard_basics.specs.Shapes.{shape_of}
use Rattle.example_fused_keywords.proofs.AtOnce.{array_at_once, bench_at_once}
use Rattle.example_fused_keywords.proofs.keyword.FusedKeywordValidate.is_valid_at_once.Goals as goal

pub returns-in-Bench : goal.returns-in-Bench
returns-in-Bench c = record {
  at_once = rw c.in-Bench.is (bench_at_once (shape_of c.in-Bench.keyword) (subject_of c.args.instance) c.is_valid_at_once.result c.is_valid_at_once.ensures.at_once);
}

pub returns-in-Array : goal.returns-in-Array
returns-in-Array c = record {
  at_once = rw c.in-Array.is (array_at_once c.in-Array.keyword (subject_of c.args.instance) c.holds_at_once.result c.holds_at_once.ensures.asks_none
      c.holds_at_once.ensures.holds);
}

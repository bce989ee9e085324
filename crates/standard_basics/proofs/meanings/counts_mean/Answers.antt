use Rattle.schema_reports.specs.ReportViews.{spoken}
use Rattle.standard_basics.specs.Counts.{count_fits, count_name, count_text}
use Rattle.standard_basics.specs.Measures.{IsWithin}
use Rattle.standard_basics.proofs.Meant.{count_within, holds_unless, one_unless}
use Rattle.standard_basics.proofs.meanings.counts_mean.Goals as goal

pub returns : goal.returns
returns c = record {
  means = λ texts s matches kind n. record {
    holds = λ accepts. holds_unless (spoken texts) (count_fits kind n s) (IsWithin kind n s) (count_text kind n s) (count_within kind n s);
    faults = λ answers. one_unless (spoken texts) (count_fits kind n s) (IsWithin kind n s) (count_name kind) (count_text kind n s) (count_within kind n s);
  };
}

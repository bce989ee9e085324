use Rattle.std.proofs.Common.{map, string_bytes, true, ◌&&◌, ◌++◌, ◌≡◌}
use Rattle.schema_reports.specs.ReportViews.{error_of}
use Rattle.schema_traits.specs.KeywordViews.{is_nil}
use Rattle.bench_program.specs.ProgramTexts.{errors_text}
use Rattle.bench_program.proofs.program.answers.errors.Given as goal

abbrev pub invariant-loop-error : goal.invariant-loop-error
invariant-loop-error l = (errors_text (map (error_of true) l.initial.error-iterator) ≡ string_bytes l.text ++ errors_text (map (error_of true) l.error-iterator))
    × (is_nil l.initial.error-iterator ≡ (l.accepted && is_nil l.error-iterator))

use Rattle.std.proofs.Common.{List, map, string_bytes, subst, true, ◌≡◌}
use Rattle.schema_reports.specs.ReportViews.{error_of}
use Rattle.schema_reports.specs.declared.reports.ValidationError.{ValidationError}
use Rattle.schema_traits.specs.KeywordViews.{is_nil}
use Rattle.bench_program.specs.ProgramTexts.{errors_text}
use Rattle.bench_program.proofs.ErrorLists.{all_counted, all_printed}
use Rattle.bench_program.proofs.program.answers.errors.Goals as goal

pub returns-clause-senses : goal.returns-clause-senses
returns-clause-senses c =
    let kept = c.loop-error.invariant in
    let gives = c.into_iter-error-iterator.ensures.into_iter_gives in (
      c.in-Ok.errors,
      c.in-Ok.ensures.senses,
      subst (λ (es : List ValidationError). c.loop-error.accepted ≡ is_nil es) gives (all_counted c.into_iter-error-iterator.result c.loop-error.error-iterator c.loop-error.accepted kept.1 c.in-None.ensures.steps.0),
      subst (λ (es : List ValidationError). string_bytes c.loop-error.text ≡ errors_text (map (error_of true) es)) gives (all_printed c.into_iter-error-iterator.result c.loop-error.error-iterator (string_bytes c.loop-error.text) kept.0 c.in-None.ensures.steps.0),
    )

pub returns-clause-depth : goal.returns-clause-depth
returns-clause-depth c =
    let kept = c.loop-error.invariant in
    let gives = c.into_iter-error-iterator.ensures.into_iter_gives in (
      c.in-Ok.errors,
      c.in-Ok.ensures.depth,
      subst (λ (es : List ValidationError). c.loop-error.accepted ≡ is_nil es) gives (all_counted c.into_iter-error-iterator.result c.loop-error.error-iterator c.loop-error.accepted kept.1 c.in-None.ensures.steps.0),
      subst (λ (es : List ValidationError). string_bytes c.loop-error.text ≡ errors_text (map (error_of true) es)) gives (all_printed c.into_iter-error-iterator.result c.loop-error.error-iterator (string_bytes c.loop-error.text) kept.0 c.in-None.ensures.steps.0),
    )

use Rattle.std.proofs.Common.{ap, is_none, option_map, sym, true, ◌++◌, ◌∙◌}
use Rattle.schema_reports.specs.ReportViews.{error_of}
use Rattle.schema_compiled.specs.Answers.{refusal_of}
use Rattle.bench_program.specs.ProgramTexts.{error_line, first_text}
use Rattle.bench_program.proofs.program.answers.first.Goals as goal

pub returns-in_ok-from_str-in-Ok-refusal-clause-senses : goal.returns-in_ok-from_str-in-Ok-refusal-clause-senses
returns-in_ok-from_str-in-Ok-refusal-clause-senses c = (
  refusal_of c.in-Ok.refusal,
  c.in-Ok.ensures.senses,
  sym (ap (λ r. is_none (refusal_of r)) c.in-Ok-refusal.is),
  c.in_ok-from_str-in-Ok-refusal.ensures.ok ∙ sym (ap (λ r. first_text (option_map (error_of true) (refusal_of r))) c.in-Ok-refusal.is),
)

pub returns-in_ok-from_str-in-Ok-refusal-clause-depth : goal.returns-in_ok-from_str-in-Ok-refusal-clause-depth
returns-in_ok-from_str-in-Ok-refusal-clause-depth c = (
  refusal_of c.in-Ok.refusal,
  c.in-Ok.ensures.depth,
  sym (ap (λ r. is_none (refusal_of r)) c.in-Ok-refusal.is),
  c.in_ok-from_str-in-Ok-refusal.ensures.ok ∙ sym (ap (λ r. first_text (option_map (error_of true) (refusal_of r))) c.in-Ok-refusal.is),
)

pub returns-in_ok-push_error-in-Err-refusal-clause-senses : goal.returns-in_ok-push_error-in-Err-refusal-clause-senses
returns-in_ok-push_error-in-Err-refusal-clause-senses c = (
  refusal_of c.in-Ok.refusal,
  c.in-Ok.ensures.senses,
  sym (ap (λ r. is_none (refusal_of r)) c.in-Err-refusal.is),
  c.in_ok-push_error-in-Err-refusal.ensures.line ∙ (ap (λ old. old ++ error_line (error_of true c.in-Err-refusal.error)) c.new-text.ensures.bytes
      ∙ sym (ap (λ r. first_text (option_map (error_of true) (refusal_of r))) c.in-Err-refusal.is)),
)

pub returns-in_ok-push_error-in-Err-refusal-clause-depth : goal.returns-in_ok-push_error-in-Err-refusal-clause-depth
returns-in_ok-push_error-in-Err-refusal-clause-depth c = (
  refusal_of c.in-Ok.refusal,
  c.in-Ok.ensures.depth,
  sym (ap (λ r. is_none (refusal_of r)) c.in-Err-refusal.is),
  c.in_ok-push_error-in-Err-refusal.ensures.line ∙ (ap (λ old. old ++ error_line (error_of true c.in-Err-refusal.error)) c.new-text.ensures.bytes
      ∙ sym (ap (λ r. first_text (option_map (error_of true) (refusal_of r))) c.in-Err-refusal.is)),
)

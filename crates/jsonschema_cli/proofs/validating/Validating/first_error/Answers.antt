use Rattle.std.proofs.Common.{ap, sym}
use Rattle.std.specs.Prelude.{is_none}
use Rattle.schema_compiled.specs.Answers.{refusal_of}
use Rattle.jsonschema_cli.proofs.validating.Validating.first_error.Goals as goal

pub returns-in-Ok-Ok : goal.returns-in-Ok-Ok
returns-in-Ok-Ok c = record {
  first = record {
    first = refusal_of c.in-Ok-Ok.field-0;
    is = c.in-Ok-Ok.ensures.depth;
    none = ap (λ r. is_none (refusal_of r)) (sym c.in-Ok-Ok.field-0-is);
  };
}

pub returns-in_ok-text-in-Ok-Err : goal.returns-in_ok-text-in-Ok-Err
returns-in_ok-text-in-Ok-Err c = record {
  first = record {
    first = refusal_of c.in-Ok-Err.field-0;
    is = c.in-Ok-Err.ensures.depth;
    none = ap (λ r. is_none (refusal_of r)) (sym c.in-Ok-Err.field-0-is);
  };
}

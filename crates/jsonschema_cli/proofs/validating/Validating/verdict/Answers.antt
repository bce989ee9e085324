use Rattle.std.proofs.Common.{sym}
use Rattle.jsonschema_cli.proofs.validating.Validating.verdict.Goals as goal

pub returns-then-accepted : goal.returns-then-accepted
returns-then-accepted c = record {
  verdict = record { valid = c.in-Ok.accepted; is = c.in-Ok.ensures.depth; same = sym c.if-accepted.true };
}

pub returns-else-accepted : goal.returns-else-accepted
returns-else-accepted c = record {
  verdict = record { valid = c.in-Ok.accepted; is = c.in-Ok.ensures.depth; same = sym c.if-accepted.false };
}

use Rattle.std.proofs.Common.{◌≡◌, length}
use Rattle.text_formats.specs.Emails as spec
use Rattle.text_formats.proofs.emails.after_quoted.Given as goal

abbrev pub invariant-loop-rest : goal.invariant-loop-rest
invariant-loop-rest l = spec.after_quoted l.wide l.text ≡ spec.after_quoted l.wide l.rest

abbrev pub decreases-loop-rest : goal.decreases-loop-rest
decreases-loop-rest l = length l.rest

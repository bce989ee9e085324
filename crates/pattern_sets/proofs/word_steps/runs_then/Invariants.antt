use Rattle.std.proofs.Common.{◌<◌, ◌-◌}
use Rattle.pattern_sets.specs.Images.{IsImageBelow, RunsFor, in_word}
use Rattle.pattern_sets.proofs.Following.{IsMet}
use Rattle.pattern_sets.proofs.Running.{Scan}
use Rattle.pattern_sets.proofs.word_steps.runs_then.Given as goal

abbrev pub invariant-steps : goal.invariant-steps
invariant-steps l = record {
  below : IsImageBelow l.i (RunsFor l.run.spans.items l.text l.least l.most) (in_word l.from) (in_word l.to);
  scan : Scan l.run.spans.items l.text l.most l.i l.end;
  short : l.end < 64;
  met : IsMet l.last.spans.items l.text l.i l.end (in_word l.to) (in_word l.met);
}

abbrev pub decreases-steps : goal.decreases-steps
decreases-steps l = 64 - l.i

use Rattle.std.proofs.Common.{ℕ, subst}
use Rattle.pattern_sets.specs.Images.{IsImage, RunsFor, in_word}
use Rattle.pattern_sets.proofs.Running.{times_image}
use Rattle.pattern_sets.proofs.word_steps.times_on.Goals as goal

pub returns : goal.returns
returns c =
    let set = c.args.set.now.spans.items in
    let text = c.args.text.now in
    record {
      walks = times_image set text c.args.least c.args.more (in_word c.args.from) (in_word c.runs_on.result)
          (subst (λ (n : ℕ). IsImage (RunsFor set text c.args.least n) (in_word c.args.from) (in_word c.runs_on.result)) c.most_turns-most.ensures.most c.runs_on.ensures.runs);
    }

use Rattle.std.proofs.Common.{ℕ, subst, true}
use Rattle.pattern_trees.specs.Patterns.{One}
use Rattle.pattern_sets.specs.Images.{IsImage, Joined, RunsFor, in_word, leads}
use Rattle.pattern_sets.proofs.Running.{times_joined}
use Rattle.pattern_sets.proofs.word_steps.times_then.Goals as goal

pub returns : goal.returns
returns c =
    let run = c.args.run.now.spans.items in
    let text = c.args.text.now in
    let S = leads true (One c.args.last.now.spans.items) text in
    let from = in_word c.args.from in
    let to = in_word c.runs_then.result in
    record {
      leaves = times_joined run text c.args.least c.args.more S from to
          (subst (λ (n : ℕ). IsImage (Joined (RunsFor run text c.args.least n) S) from to) c.most_turns-most.ensures.most c.runs_then.ensures.leaves);
    }

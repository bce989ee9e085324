use Rattle.std.proofs.Common.{ℕ, subst}
use Rattle.pattern_rows.specs.Rows.{has}
use Rattle.pattern_sets.specs.Images.{IsImage, RunsFor}
use Rattle.pattern_sets.proofs.Running.{times_image}
use Rattle.pattern_sets.proofs.row_steps.times_on.Goals as goal

pub returns : goal.returns
returns c =
    let set = c.args.set.now.spans.items in
    let text = c.args.text.now in
    let from = has c.args.from.now in
    let to = has c.in_ok-to.to in
    record {
      walks = record {
        image = times_image set text c.args.least c.args.more from to (subst (λ (n : ℕ). IsImage (RunsFor set text c.args.least n) from to) c.most_turns-most.ensures.most c.in_ok-to.ensures.runs.image);
        width = c.in_ok-to.ensures.runs.width;
      };
    }

use Rattle.std.proofs.Common.{◌+◌, refl, true}
use Rattle.pattern_trees.specs.Patterns.{One}
use Rattle.pattern_rows.proofs.Bits.{no_bit_of_zero}
use Rattle.pattern_sets.specs.Images.{in_word, leads}
use Rattle.pattern_sets.proofs.Leading.{below_begins, below_ends, below_put, below_skip, next_only, none_after}
use Rattle.pattern_sets.proofs.word_steps.step_from.Goals as goal

pub returns-then-takes : goal.returns-then-takes
returns-then-takes c =
    let R = leads true (One c.args.set.now.spans.items) c.args.text.now in
    let m = c.args.position in
    let from = in_word c.args.from in
    let only = c.requires.only in
    let taken = c.takes.ensures.yes c.if-takes.true in
    record {
      walks = below_ends R (m + 1) from (in_word c.with.result)
          (below_put R 0 m (m + 1) from (in_word 0) (in_word c.with.result) (below_begins R from (in_word 0) no_bit_of_zero) (next_only m from only) (taken.0, taken.1, refl) (λ j r. r.2) c.with.ensures.bits)
          (none_after m from only);
    }

pub returns-else-takes : goal.returns-else-takes
returns-else-takes c =
    let R = leads true (One c.args.set.now.spans.items) c.args.text.now in
    let m = c.args.position in
    let from = in_word c.args.from in
    let only = c.requires.only in
    let free = c.takes.ensures.no c.if-takes.false in
    record {
      walks = below_ends R (m + 1) from (in_word 0)
          (below_skip R 0 m from (in_word 0) (below_begins R from (in_word 0) no_bit_of_zero) (next_only m from only) (λ j r. free (r.0, r.1)))
          (none_after m from only);
    }

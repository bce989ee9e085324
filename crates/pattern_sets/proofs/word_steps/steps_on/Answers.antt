use Rattle.std.proofs.Common.{ℕ, ◌+◌, length, not, true, refl, ap, arith}
use Rattle.pattern_trees.specs.Patterns.{One}
use Rattle.pattern_sets.specs.Images.{in_word, leads}
use Rattle.pattern_sets.proofs.Leading.{but_begins, but_ends, but_put, but_skip, left_part, left_there, left_was}
use Rattle.pattern_sets.proofs.Reaching.{missing_less}
use Rattle.pattern_rows.proofs.Bits.{no_bit_of_zero}
use Rattle.pattern_sets.proofs.word_steps.steps_on.Goals as goal
use Rattle.pattern_sets.proofs.word_steps.steps_on.Goals.{then-takes, else-takes}

pub steps-init : goal.steps-init
steps-init c =
    record { but = but_begins (leads true (One c.args.set.now.spans.items) c.args.text.now) (in_word c.args.from) (in_word 0) no_bit_of_zero; part = λ k h. h }

pub steps-preserved : goal.steps-preserved
steps-preserved c =
    let R = leads true (One c.args.set.now.spans.items) c.args.text.now in
    let m = c.in-Some.m in
    let from = in_word c.args.from in
    let old = in_word c.steps.left in
    let left = in_word c.without_one-left.result in
    let rest = c.without_one-left.ensures.rest in
    let there = c.in-Some.ensures.lowest.2 in
    let part = c.steps.invariant.part in
    elim c.if-takes.branch [
      | then-takes w ↦ (
          let taken = c.takes.ensures.yes w.if-takes.true in
          rw w.to-is (record {
            but = but_put R m (m + 1) from old left (in_word c.steps.to) (in_word w.with-to.result) c.steps.invariant.but (part m there) rest (taken.0, taken.1, refl) (λ j r. r.2) w.with-to.ensures.bits;
            part = left_part m from old left part rest;
          }))
      | else-takes w ↦ (
          let free = c.takes.ensures.no w.if-takes.false in
          rw w.to-is (record {
            but = but_skip R m from old left (in_word c.steps.to) c.steps.invariant.but rest (λ j r. free (r.0, r.1));
            part = left_part m from old left part rest;
          }))
    ]

pub steps-smaller : goal.steps-smaller
steps-smaller c =
    let m = c.in-Some.m in
    let old = in_word c.steps.left in
    let left = in_word c.without_one-left.result in
    let rest = c.without_one-left.ensures.rest in
    let found = c.in-Some.ensures.lowest in
    let within = found.1 in
    missing_less (λ (k : ℕ). not (old k)) (λ (k : ℕ). not (left k)) (λ k h. left_was m old left rest k h) (length c.args.text.now + 64) m (omega arith) (ap not found.2) (left_there m old left rest)

pub returns : goal.returns
returns c =
    record { walks = but_ends (leads true (One c.args.set.now.spans.items) c.args.text.now) (in_word c.args.from) (in_word c.steps.left) (in_word c.steps.to) c.steps.invariant.but (λ k. c.in_default.ensures.lowest k (omega arith)) }

use Rattle.std.proofs.Common.{ℕ, ◌≡◌, ◌<◌, ◌-◌, false, subst, arith}
use Rattle.pattern_trees.specs.Patterns.{One}
use Rattle.pattern_sets.specs.Images.{IsTaken, in_word, leads}
use Rattle.pattern_sets.proofs.Leading.{IsNext, below_put, below_skip}
use Rattle.pattern_sets.proofs.word_steps.step_back.Goals as goal
use Rattle.pattern_sets.proofs.word_steps.step_back.Goals.{then-takes_back, else-takes_back}

pub steps-preserved : goal.steps-preserved
steps-preserved c =
    let set = c.args.set.now.spans.items in
    let text = c.args.text.now in
    let R = leads false (One set) text in
    let m = c.in-Some.m in
    let next = c.in-Some.ensures.next in
    let found : IsNext c.steps.i m (in_word c.args.from) = record { from_on = next.0; set = next.1; first = next.2 } in
    elim c.if-takes_back.branch [
      | then-takes_back w ↦ (
          let taken = c.takes_back.ensures.yes w.if-takes_back.true in
          let some = taken.0 in
          rw w.to-is (below_put R c.steps.i m (m - 1) (in_word c.args.from) (in_word c.steps.to) (in_word w.with-to.result) c.steps.invariant found (taken.1.0, taken.1.1, omega arith) (λ j r. let e = r.2 in omega arith) w.with-to.ensures.bits))
      | else-takes_back w ↦ (
          let free = c.takes_back.ensures.no w.if-takes_back.false in
          rw w.to-is (below_skip R c.steps.i m (in_word c.args.from) (in_word c.steps.to) c.steps.invariant found
          (λ j r.
          let e = r.2 in
          let before : j ≡ m - 1 = omega arith in
          let some : 0 < m = omega arith in
          free some (subst (λ (p : ℕ). IsTaken set text p) before (r.0, r.1)))))
    ]

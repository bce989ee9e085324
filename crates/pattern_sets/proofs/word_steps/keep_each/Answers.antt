use Rattle.std.proofs.Common.{ℕ, ◌≡◌, refl, sym}
use Rattle.pattern_trees.specs.Patterns.{IsAt}
use Rattle.pattern_sets.specs.Images.{in_word}
use Rattle.pattern_sets.proofs.Leading.{IsNext, below_put, below_skip}
use Rattle.pattern_sets.proofs.word_steps.keep_each.Goals as goal
use Rattle.pattern_sets.proofs.word_steps.keep_each.Goals.{then-is_at, else-is_at}

pub steps-preserved : goal.steps-preserved
steps-preserved c =
    let R : ℕ → ℕ → Type 0 = λ i j. IsAt c.args.edge c.args.text.now i × (i ≡ j) in
    let m = c.in-Some.m in
    let next = c.in-Some.ensures.next in
    let found : IsNext c.steps.i m (in_word c.args.from) = record { from_on = next.0; set = next.1; first = next.2 } in
    elim c.if-is_at.branch [
      | then-is_at w ↦ rw w.to-is (below_put R c.steps.i m m (in_word c.args.from) (in_word c.steps.to) (in_word w.with-to.result) c.steps.invariant found (c.is_at.ensures.yes w.if-is_at.true, refl) (λ j r. sym r.1) w.with-to.ensures.bits)
      | else-is_at w ↦ rw w.to-is (below_skip R c.steps.i m (in_word c.args.from) (in_word c.steps.to) c.steps.invariant found (λ j r. c.is_at.ensures.no w.if-is_at.false r.0))
    ]

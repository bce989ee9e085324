use Rattle.std.proofs.Common.{ℕ, ◌≡◌, refl, sym, arith}
use Rattle.pattern_trees.specs.Patterns.{IsAt}
use Rattle.pattern_rows.specs.Rows.{has}
use Rattle.pattern_sets.proofs.Leading.{IsNext, below_put, below_skip}
use Rattle.pattern_sets.proofs.row_steps.keep_edges.Goals as goal
use Rattle.pattern_sets.proofs.row_steps.keep_edges.Goals.{then-is_at, else-is_at}

pub steps-preserved : goal.steps-preserved
steps-preserved c =
    let text = c.args.text.now in
    let R : ℕ → ℕ → Type 0 = λ i j. IsAt c.args.edge text i × (i ≡ j) in
    let m = c.in-Some.m in
    let next = c.in-Some.ensures.next in
    let found : IsNext c.steps.i m (has c.args.from.now) = record { from_on = next.0; set = next.1; first = next.2 } in
    let below = c.steps.invariant.below in
    let wide = c.steps.invariant.width in
    elim c.if-is_at.branch [
      | then-is_at w ↦ (
          let new = w.put.new.self in
          let put = w.put.ensures.width in
          rw w.to-is (record {
            width = omega arith;
            below = below_put R c.steps.i m m (has c.args.from.now) (has c.steps.to) (has new) below found (c.is_at.ensures.yes w.if-is_at.true, refl) (λ j r. sym r.1) w.put.ensures.put;
          }))
      | else-is_at w ↦ (
          rw w.to-is (record {
            width = wide;
            below = below_skip R c.steps.i m (has c.args.from.now) (has c.steps.to) below found (λ j r. c.is_at.ensures.no w.if-is_at.false r.0);
          }))
    ]

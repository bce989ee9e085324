use Rattle.std.proofs.Common.{ℕ, ◌≡◌, ◌<◌, ◌-◌, inl, inr, subst, true, false, arith}
use Rattle.pattern_trees.specs.Patterns.{One}
use Rattle.pattern_rows.specs.Rows.{has}
use Rattle.pattern_sets.specs.Images.{IsTaken, leads}
use Rattle.pattern_sets.proofs.Reaching.{above_or_at, running_ends, running_puts, running_skips}
use Rattle.pattern_sets.proofs.row_steps.run_back.Goals as goal
use Rattle.pattern_sets.proofs.row_steps.run_back.Goals.{then-leads_back, else-leads_back}

pub steps-preserved : goal.steps-preserved
steps-preserved c =
    let set = c.args.set.now.spans.items in
    let text = c.args.text.now in
    let R = leads false (One set) text in
    let m = c.steps.m in
    let some : 0 < m = c.steps-test.true in
    let running = c.steps.invariant.running in
    let wide = c.steps.invariant.width_to in
    let within = c.steps.invariant.within in
    elim c.if-leads_back.branch [
      | then-leads_back w ↦ (
          let new = w.put.new.self in
          let put = w.put.ensures.width in
          let led = c.leads_back.ensures.yes w.if-leads_back.true in
          rw w.to-is (record {
            within = omega arith;
            width_to = omega arith;
            width_from = c.steps.invariant.width_from;
            running = running_puts R (λ x. m < x) (λ x. m - 1 < x) m (m - 1) (has c.args.from) (has c.steps.to) (has new) running led.0 (led.1.0, led.1.1, omega arith) (λ j r. let e = r.2 in omega arith)
                (λ l. omega arith) (λ x l h. above_or_at m x l) w.put.ensures.put;
          }))
      | else-leads_back w ↦ (
          let free = c.leads_back.ensures.no w.if-leads_back.false in
          rw w.to-is (record {
            within = omega arith;
            width_to = wide;
            width_from = c.steps.invariant.width_from;
            running = running_skips R (λ x. m < x) (λ x. m - 1 < x) (has c.args.from) (has c.steps.to) running
                (λ x y l h r. elim (above_or_at m x l) [
                  | inl more ↦ more
                  | inr at ↦ (
                      let e = r.2 in
                      let before : y ≡ m - 1 = omega arith in
                      absurd (free (subst (λ (p : ℕ). has c.steps.to p ≡ true) at h) (subst (λ (p : ℕ). IsTaken set text p) before (r.0, r.1))))
                ]);
          }))
    ]

pub returns : goal.returns
returns c =
    let set = c.args.set.now.spans.items in
    let text = c.args.text.now in
    let a = c.steps.invariant.width_to in
    let b = c.steps.invariant.width_from in
    record {
      leaves = record {
        image = running_ends (leads false (One set) text) (λ x. c.steps.m < x) (has c.args.from) (has c.steps.to) c.steps.invariant.running
            (λ x y h r. let e = r.2 in omega arith);
        width = omega arith;
      };
    }

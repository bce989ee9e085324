use Rattle.std.proofs.Common.{ℕ, ◌+◌, inl, inr, refl, subst, arith}
use Rattle.pattern_sets.specs.Images.{IsTaken, in_word}
use Rattle.pattern_sets.proofs.Leading.{IsNext, passed}
use Rattle.pattern_sets.proofs.Reaching.{done_by_none}
use Rattle.pattern_sets.proofs.word_steps.step_reaches.Goals as goal

pub steps-preserved : goal.steps-preserved
steps-preserved c =
    let m = c.in-Some.m in
    let next = c.in-Some.ensures.next in
    let found : IsNext c.steps.i m (in_word c.args.from) = record { from_on = next.0; set = next.1; first = next.2 } in
    let free = c.takes.ensures.no c.if-takes.false in
    λ k l h taken. elim (passed c.steps.i m (in_word c.args.from) found k l h) [
      | inl less ↦ c.steps.invariant k less h taken
      | inr at ↦ free (subst (λ (p : ℕ). IsTaken c.args.set.now.spans.items c.args.text.now p) at taken)
    ]

pub returns-then-takes : goal.returns-then-takes
returns-then-takes c =
    let m = c.in-Some.m in
    let next = c.in-Some.ensures.next in
    let taken = c.takes.ensures.yes c.if-takes.true in
    let inside = taken.0 in
    record { reaches = record { yes = λ h. (m, m + 1, next.1, omega arith, (taken.0, taken.1, refl)); no = λ h. absurd (cc) } }

pub returns : goal.returns
returns c =
    record {
      reaches = record {
        yes = λ h. absurd (cc);
        no = λ h i j f l r. c.steps.invariant i (done_by_none c.steps.i (in_word c.args.from) c.in_default.ensures.next i f) f (r.0, r.1);
      };
    }

use Rattle.std.proofs.Common.{◌≡◌, ◌∙◌, ◌++◌, ◌-◌, suc, ap, sym, subst, refl, arith, ◌∷◌}
use Rattle.pattern_trees.specs.Matching.{State}
use Rattle.pattern_trees.specs.Nodes.{node_of}
use Rattle.pattern_backtracking.specs.Counting.{within, entered, gives, whole_trace}
use Rattle.pattern_backtracking.specs.Piles.{state, whole, pile_trace, done, Says}
use Rattle.pattern_backtracking.proofs.Traces.{none-left, pile-begins, pile-start, pile-found, pile-task, pile-empty}
use Rattle.pattern_backtracking.proofs.Steps.{within-step, within-none, within-zero, goes-true, goes-false, within-gives, sought-limit, sought-answer}
use Rattle.pattern_backtracking.proofs.machine.+machine.Goals as goal

pub enter-returns-then-is_limit-clause-goes : goal.enter-returns-then-is_limit-clause-goes
enter-returns-then-is_limit-clause-goes t c =
    let st : State = state c.args.place c.args.captures.items in
    let said : Says c.in_ok-found-in-Around.found c.first_result.new.steps (within c.args.steps.now (whole_trace (node_of c.in-Around.inside.value) c.in-Around.look.ahead c.args.s.now st))
    = subst (λ cs. Says c.in_ok-found-in-Around.found c.first_result.new.steps (within c.args.steps.now (whole_trace (node_of c.in-Around.inside.value) c.in-Around.look.ahead c.args.s.now (state c.args.place cs)))) c.in_ok-copied-in-Around.ensures.copied
    (subst (λ n. Says c.in_ok-found-in-Around.found c.first_result.new.steps (within c.args.steps.now (whole_trace (node_of n) c.in-Around.look.ahead c.args.s.now (state c.args.place c.in_ok-copied-in-Around.copied.items)))) c.deref-in-Around.ensures c.in_ok-found-in-Around.ensures.says) in
    ap (λ n. within c.args.steps.now (whole c.args.s.now c.args.tasks.items (entered (node_of n) c.args.ahead c.args.s.now st) ++ pile_trace c.args.s.now c.args.frames.now.items)) c.in-Around.is
    ∙ sought-limit c.args.s.now c.args.tasks.items c.in-Around.look st (pile_trace c.args.s.now c.args.frames.now.items) (whole_trace (node_of c.in-Around.inside.value) c.in-Around.look.ahead c.args.s.now st) c.args.steps.now c.first_result.new.steps c.in_ok-found-in-Around.found (sym c.is_limit.ensures.limit ∙ c.if-is_limit.true) said

pub enter-returns-in_ok-push_around-in-Around-clause-goes : goal.enter-returns-in_ok-push_around-in-Around-clause-goes
enter-returns-in_ok-push_around-in-Around-clause-goes t c =
    let st : State = state c.args.place c.args.captures.items in
    let said : Says c.in_ok-found-in-Around.found c.first_result.new.steps (within c.args.steps.now (whole_trace (node_of c.in-Around.inside.value) c.in-Around.look.ahead c.args.s.now st))
    = subst (λ cs. Says c.in_ok-found-in-Around.found c.first_result.new.steps (within c.args.steps.now (whole_trace (node_of c.in-Around.inside.value) c.in-Around.look.ahead c.args.s.now (state c.args.place cs)))) c.in_ok-copied-in-Around.ensures.copied
    (subst (λ n. Says c.in_ok-found-in-Around.found c.first_result.new.steps (within c.args.steps.now (whole_trace (node_of n) c.in-Around.look.ahead c.args.s.now (state c.args.place c.in_ok-copied-in-Around.copied.items)))) c.deref-in-Around.ensures c.in_ok-found-in-Around.ensures.says) in
    ap (λ n. within c.args.steps.now (whole c.args.s.now c.args.tasks.items (entered (node_of n) c.args.ahead c.args.s.now st) ++ pile_trace c.args.s.now c.args.frames.now.items)) c.in-Around.is
    ∙ sought-answer c.args.s.now c.args.tasks.items c.in-Around.look st (pile_trace c.args.s.now c.args.frames.now.items) (whole_trace (node_of c.in-Around.inside.value) c.in-Around.look.ahead c.args.s.now st) c.args.steps.now c.first_result.new.steps c.in_ok-found-in-Around.found (sym c.is_limit.ensures.limit ∙ c.if-is_limit.false) said
    ∙ ap (within c.first_result.new.steps) (sym c.in_ok-push_around-in-Around.ensures.pushed)

pub first_result-loop-frame-init : goal.first_result-loop-frame-init
first_result-loop-frame-init t c = record {
  rest = sym (ap (within c.args.steps.now) (c.in_ok-push_task.ensures.pushed ∙ pile-start _ _ _ _ c.new.ensures.items c.new-frames.ensures.items));
  spent = omega arith;
}

pub first_result-returns-then-steps-eq0-clause-says : goal.first_result-returns-then-steps-eq0-clause-says
first_result-returns-then-steps-eq0-clause-says t c =
    let b = pile-begins c.args.s.now c.pop.new.self.items c.loop-frame.frames.items c.in-Some.frame c.in-Some.ensures.items in
    c.loop-frame.invariant.rest ∙ ap (within c.loop-frame.steps) b.1 ∙ within-zero c.loop-frame.steps b.0 c.if-steps-eq0.true

pub first_result-returns-in_default-pop-clause-says : goal.first_result-returns-in_default-pop-clause-says
first_result-returns-in_default-pop-clause-says t c =
    let x : State = state c.in-Some.frame.place c.in-Some.frame.captures.items in
    let less : c.loop-frame.steps ≡ suc (c.loop-frame.steps - 1) = omega arith in (
      x,
      c.loop-frame.invariant.rest
          ∙ ap (within c.loop-frame.steps) (pile-found c.args.s.now c.pop.new.self.items c.loop-frame.frames.items c.in-Some.frame c.in-Some.ensures.items (none-left c.in-Some.frame.tasks.items (sym c.in-Some.frame.tasks.ok.0 ∙ c.in_default-pop.ensures.cases.0)))
          ∙ within-step c.loop-frame.steps (c.loop-frame.steps - 1) (gives x ∷ pile_trace c.args.s.now c.pop.new.self.items) less
          ∙ within-gives (c.loop-frame.steps - 1) x (pile_trace c.args.s.now c.pop.new.self.items),
      refl,
    )

pub first_result-returns-then-not-branch-clause-says : goal.first_result-returns-then-not-branch-clause-says
first_result-returns-then-not-branch-clause-says t c =
    let less : c.loop-frame.steps ≡ suc (c.loop-frame.steps - 1) = omega arith in
    c.loop-frame.invariant.rest ∙ ap (within c.loop-frame.steps) (pile-task c.args.s.now c.pop.new.self.items c.loop-frame.frames.items c.in-Some.frame c.pop-in-Some.new.self.items c.in-Some-pop.task c.in-Some.ensures.items c.in-Some-pop.ensures.items)
    ∙ within-step c.loop-frame.steps (c.loop-frame.steps - 1) (whole c.args.s.now c.pop-in-Some.new.self.items (done c.args.s.now c.in-Some-pop.task (state c.in-Some.frame.place c.in-Some.frame.captures.items)) ++ pile_trace c.args.s.now c.pop.new.self.items) less
    ∙ goes-false c.in_ok-take.field-0 (within (c.loop-frame.steps - 1) (whole c.args.s.now c.pop-in-Some.new.self.items (done c.args.s.now c.in-Some-pop.task (state c.in-Some.frame.place c.in-Some.frame.captures.items)) ++ pile_trace c.args.s.now c.pop.new.self.items)) (within c.take.new.steps (pile_trace c.args.s.now c.take.new.frames.items)) c.if-not-branch.true c.in_ok-take.ensures.goes

pub first_result-loop-frame-preserved : goal.first_result-loop-frame-preserved
first_result-loop-frame-preserved t c =
    let less : c.loop-frame.steps ≡ suc (c.loop-frame.steps - 1) = omega arith in
    record {
      rest = c.loop-frame.invariant.rest ∙ ap (within c.loop-frame.steps) (pile-task c.args.s.now c.pop.new.self.items c.loop-frame.frames.items c.in-Some.frame c.pop-in-Some.new.self.items c.in-Some-pop.task c.in-Some.ensures.items c.in-Some-pop.ensures.items)
          ∙ within-step c.loop-frame.steps (c.loop-frame.steps - 1) (whole c.args.s.now c.pop-in-Some.new.self.items (done c.args.s.now c.in-Some-pop.task (state c.in-Some.frame.place c.in-Some.frame.captures.items)) ++ pile_trace c.args.s.now c.pop.new.self.items) less
          ∙ goes-true c.in_ok-take.field-0 (within (c.loop-frame.steps - 1) (whole c.args.s.now c.pop-in-Some.new.self.items (done c.args.s.now c.in-Some-pop.task (state c.in-Some.frame.place c.in-Some.frame.captures.items)) ++ pile_trace c.args.s.now c.pop.new.self.items)) (within c.take.new.steps (pile_trace c.args.s.now c.take.new.frames.items)) c.if-not-branch.false c.in_ok-take.ensures.goes;
      spent = omega arith;
    }

pub first_result-returns-clause-says : goal.first_result-returns-clause-says
first_result-returns-clause-says t c = c.loop-frame.invariant.rest ∙ ap (λ gs. within c.loop-frame.steps (pile_trace c.args.s.now gs)) (none-left c.loop-frame.frames.items (sym c.loop-frame.frames.ok.0 ∙ c.in_default.ensures.cases.0)) ∙ ap (within c.loop-frame.steps) (pile-empty c.args.s.now) ∙ within-none c.loop-frame.steps

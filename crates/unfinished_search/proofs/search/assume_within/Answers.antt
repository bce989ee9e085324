use Rattle.std.proofs.Common.{rules, arith, of_calls, ◌≡◌, [], Option, Some, None, is_some, refl, sym, true}
use Rattle.std.proofs.lemmas.Grind.{common_steps}
use Rattle.theory_definitions.specs.Unfinished.{Failure}
use Rattle.unfinished_search.proofs.RunUses.{none_used, used_more, used_within}
use Rattle.unfinished_search.proofs.SearchCounts.{is_cut, is_whole}
use Rattle.theory_meaning.proofs.TakenApart.{new_from}
use Rattle.unfinished_search.proofs.Forest.{stack_end, stack_first, stack_stop, stack_taken}
use Rattle.unfinished_search.proofs.search.assume_within.Goals as goal

-- the match that the first run met
a_first : (o : Option Failure) → is_some o ≡ true → (u : Failure) × (o ≡ Some u)
a_first (Some u) is = (u, refl)
a_first None is = absurd (let b : ⊥ = cc in b)

pub loop-outcomes-init : goal.loop-outcomes-init
loop-outcomes-init g c = record {
  callable = search rules;
  within = omega arith;
  uses = none_used (goal.F-step g) c.args.run.now;
  completes =
      λ u is.
      let pending = rw c.in_ok-pending.was at c.begin.ensures.pending u is in
      let failure = rw c.in_ok-pending.was at c.begin.ensures.failure u is in
      stack_first _ c.args.first u c.args.run.now is c.begin.ensures.is_new c.in_ok-pending.pending.items _ _ pending c.new-results.ensures.items failure;
}

pub loop-outcomes-preserved : goal.loop-outcomes-preserved
loop-outcomes-preserved g c = record {
  callable = search of_calls;
  within = omega arith;
  uses = used_more (goal.F-step g) c.loop-outcomes.runs _ _ _ _ (omega arith) c.loop-outcomes.invariant.uses c.run_from.ensures.used;
  completes =
      λ u is.
      stack_taken _ c.args.first u c.args.run.now _ _ _ c.in-Some.outcomes _ _ _ _ _ _ c.in-Ok.given.0 c.in-Ok.given.1 c.run_from.new.run c.in-Ok.given.0.unassumed refl c.in-Some.ensures.items (c.loop-outcomes.invariant.completes u is) c.in-Ok.ensures.made c.take-taken.ensures.is_new c.take-taken.ensures.located c.in_default-taken.ensures.whole c.in_default-taken.ensures.branches;
}

pub returns-then-runs-run_limit : goal.returns-then-runs-run_limit
returns-then-runs-run_limit g c =
    let first = a_first c.args.first.unassumed c.requires.met in let u = first.0 in let some = first.1 in
    let w = stack_stop _ c.args.first u c.args.run.now _ _ c.in-Some.outcomes _ _ _ _ c.in-Some.ensures.items (c.loop-outcomes.invariant.completes u some) in
    record { outcomes = (w.tree, record { unassumed = u; is_first = some; grows = w.grows; in_order = w.in_order; few = omega (arith, w.runs_are); located = sym w.failure_is; new = λ back. new_from _ c.args.run.now back c.args.first w.tree c.loop-outcomes.run w.grows }, is_cut _ c.args.first c.args.run.now c.args.run_limit w.tree (omega (arith, w.waiting_are)) (omega (arith, w.runs_are))); uses = used_within (goal.F-step g) c.loop-outcomes.runs c.args.run_limit c.args.run.now c.loop-outcomes.run (omega arith) c.loop-outcomes.invariant.uses }

pub returns-clause-outcomes : goal.returns-clause-outcomes
returns-clause-outcomes g c =
    let first = a_first c.args.first.unassumed c.requires.met in let u = first.0 in let some = first.1 in
    let e1 = c.in_default.ensures.cases in let e2 = c.in_default.ensures.rest in let e3 = c.in_default.not-Some in let e4 = c.in_default.is in let e5 = c.in_default.ensures.items in
    let empty : c.loop-outcomes.pending.items ≡ [] = grind (arith, common_steps) in
    let w = stack_end _ c.args.first u c.args.run.now _ _ _ _ _ empty (c.loop-outcomes.invariant.completes u some) in
    (w.tree, record { unassumed = u; is_first = some; grows = w.grows; in_order = w.in_order; few = omega (arith, w.runs_are); located = sym w.failure_is; new = λ back. new_from _ c.args.run.now back c.args.first w.tree c.loop-outcomes.run w.grows }, is_whole _ c.args.first c.args.run.now c.args.run_limit w.tree w.waiting_are (λ back. new_from _ c.args.run.now back c.args.first w.tree c.loop-outcomes.run w.grows), sym w.results_are)

pub returns-clause-uses : goal.returns-clause-uses
returns-clause-uses g c =
    used_within (goal.F-step g) c.loop-outcomes.runs c.args.run_limit c.args.run.now c.loop-outcomes.run (omega arith) c.loop-outcomes.invariant.uses

pub returns-in_err-pending-clause-uses : goal.returns-in_err-pending-clause-uses
returns-in_err-pending-clause-uses g c =
    used_within (goal.F-step g) 1 c.args.run_limit c.args.run.now _ (omega arith) (none_used (goal.F-step g) c.args.run.now)

pub returns-in-Err-clause-uses : goal.returns-in-Err-clause-uses
returns-in-Err-clause-uses g c =
    used_more (goal.F-step g) c.loop-outcomes.runs c.args.run_limit c.args.run.now c.loop-outcomes.run _ (omega arith) c.loop-outcomes.invariant.uses c.run_from.ensures.used

pub returns-in-Err-taken-clause-uses : goal.returns-in-Err-taken-clause-uses
returns-in-Err-taken-clause-uses g c =
    used_more (goal.F-step g) c.loop-outcomes.runs c.args.run_limit c.args.run.now c.loop-outcomes.run _ (omega arith) c.loop-outcomes.invariant.uses c.run_from.ensures.used

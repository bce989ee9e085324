use Rattle.std.proofs.Common.{◌∙◌, ◌+◌, true, sym, subst, length}
use Rattle.pattern_trees.specs.Nodes.{node_of}
use Rattle.pattern_trees.specs.Matching.{nothing_captured}
use Rattle.pattern_backtracking.specs.Counting.{whole_trace, within}
use Rattle.pattern_backtracking.specs.Piles.{Says}
use Rattle.pattern_backtracking.specs.declared.frames.First.TheVariants.{Found, Missing, Limit}
use Rattle.pattern_backtracking.proofs.Erasing.{counted-found, counted-limit, counted-next, counted-over}
use Rattle.pattern_backtracking.proofs.search.count_down.Goals as goal

pub returns-in-Found : goal.returns-in-Found
returns-in-Found c =
    let said : Says (Found c.in-Found.field-0) c.search_at.new.steps (within c.loop-place.steps (whole_trace (node_of c.args.tree.now) true c.args.s.now (nothing_captured c.args.groups c.loop-place.place)))
    = subst (λ f. Says f c.search_at.new.steps (within c.loop-place.steps (whole_trace (node_of c.args.tree.now) true c.args.s.now (nothing_captured c.args.groups c.loop-place.place)))) c.in-Found.is c.in_ok-search_at.ensures.says in
    record { decided = sym (c.loop-place.invariant ∙ counted-found (node_of c.args.tree.now) c.args.groups c.args.s.now (length c.args.s.now + 1) c.loop-place.place c.loop-place.steps c.search_at.new.steps said.0 c.loop-place-test.true said.1) }

pub returns-in-Limit : goal.returns-in-Limit
returns-in-Limit c =
    let said : Says (Limit) c.search_at.new.steps (within c.loop-place.steps (whole_trace (node_of c.args.tree.now) true c.args.s.now (nothing_captured c.args.groups c.loop-place.place)))
    = subst (λ f. Says f c.search_at.new.steps (within c.loop-place.steps (whole_trace (node_of c.args.tree.now) true c.args.s.now (nothing_captured c.args.groups c.loop-place.place)))) c.in-Limit.is c.in_ok-search_at.ensures.says in
    record { decided = sym (c.loop-place.invariant ∙ counted-limit (node_of c.args.tree.now) c.args.groups c.args.s.now (length c.args.s.now + 1) c.loop-place.place c.loop-place.steps c.loop-place-test.true said) }

pub loop-place-preserved : goal.loop-place-preserved
loop-place-preserved c =
    let said : Says (Missing) c.search_at.new.steps (within c.loop-place.steps (whole_trace (node_of c.args.tree.now) true c.args.s.now (nothing_captured c.args.groups c.loop-place.place)))
    = subst (λ f. Says f c.search_at.new.steps (within c.loop-place.steps (whole_trace (node_of c.args.tree.now) true c.args.s.now (nothing_captured c.args.groups c.loop-place.place)))) c.in-Missing.is c.in_ok-search_at.ensures.says in
    c.loop-place.invariant ∙ counted-next (node_of c.args.tree.now) c.args.groups c.args.s.now (length c.args.s.now + 1) c.loop-place.place c.loop-place.steps c.search_at.new.steps c.loop-place-test.true said

pub returns : goal.returns
returns c = record { decided = sym (c.loop-place.invariant ∙ counted-over (node_of c.args.tree.now) c.args.groups c.args.s.now (length c.args.s.now + 1) c.loop-place.place c.loop-place.steps c.loop-place-test.false) }

use Rattle.std.proofs.Common.{◌∙◌, sym}
use Rattle.pattern_backtracking.specs.Piles.{more_trace, state, visited}
use Rattle.pattern_backtracking.proofs.Traces.{in-turn, same-whole}
use Rattle.pattern_backtracking.proofs.Steps.{ordered-greedy, ordered-lazy}
use Rattle.pattern_backtracking.proofs.turns.push_choice.Goals as goal

pub returns-then-turns : goal.returns-then-turns
returns-then-turns c = record {
  pushed = in-turn _ _ _ _ _ _ _
      (rw (c.in_ok-other_tasks.ensures.copied, c.in_ok-other_captures.ensures.copied) at c.in_ok-push_frame.ensures.pushed)
      c.in_ok-push_more.ensures.pushed
      ∙ same-whole _ _ _ _ _ (sym (ordered-greedy c.args.turns (more_trace (visited c.args.body.now c.args.ahead c.args.s.now) c.args.left c.args.turns (state c.args.place c.args.captures.items)) (state c.args.place c.args.captures.items) c.requires.free c.if-turns.true));
}

pub returns : goal.returns
returns c = record {
  pushed = in-turn _ _ _ _ _ _ _
      (rw (c.in_ok-other_tasks.ensures.copied, c.in_ok-other_captures.ensures.copied) at c.in_ok-push_more-2.ensures.pushed)
      c.in_ok-push_frame-2.ensures.pushed
      ∙ same-whole _ _ _ _ _ (sym (ordered-lazy c.args.turns (more_trace (visited c.args.body.now c.args.ahead c.args.s.now) c.args.left c.args.turns (state c.args.place c.args.captures.items)) (state c.args.place c.args.captures.items) c.requires.free c.if-turns.false));
}

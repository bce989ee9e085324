use Rattle.std.proofs.Common.{◌∙◌, ◌+◌, ◌-◌, ap, sym, Bool}
use Rattle.std.specs.Prelude.{◌&&◌}
use Rattle.pattern_trees.specs.Matching.{same_chars}
use Rattle.pattern_backtracking.proofs.Counts.{same_chars-step}
use Rattle.pattern_backtracking.proofs.chars.are_same_chars.Goals as goal

pub loop-k-preserved : goal.loop-k-preserved
loop-k-preserved c =
    c.loop-k.invariant ∙ same_chars-step c.args.count c.loop-k.k c.args.i c.args.j c.args.s.now c.loop-k-test.true
    ∙ ap (λ (b : Bool). b && same_chars (c.args.count - (c.loop-k.k + 1)) c.args.s.now (c.args.i + (c.loop-k.k + 1)) (c.args.j + (c.loop-k.k + 1))) (sym c.is_same_char.ensures.same ∙ c.if-not-is_same_char.false)

pub returns-then-not-is_same_char : goal.returns-then-not-is_same_char
returns-then-not-is_same_char c = record {
  same = sym (
      c.loop-k.invariant ∙ same_chars-step c.args.count c.loop-k.k c.args.i c.args.j c.args.s.now c.loop-k-test.true
      ∙ ap (λ (b : Bool). b && same_chars (c.args.count - (c.loop-k.k + 1)) c.args.s.now (c.args.i + (c.loop-k.k + 1)) (c.args.j + (c.loop-k.k + 1))) (sym c.is_same_char.ensures.same ∙ c.if-not-is_same_char.true));
}

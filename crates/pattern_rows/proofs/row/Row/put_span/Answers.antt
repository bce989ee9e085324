use Rattle.std.proofs.Common.{Bool, ℕ, ◌&&◌, ◌||◌, ◌∙◌, ◌==◌, ap, arith, cond, nat_le, nat_lt, refl, true}
use Rattle.pattern_rows.specs.Rows.{has}
use Rattle.pattern_rows.proofs.Bits.{span_begins, span_ends, span_grows}
use Rattle.pattern_rows.proofs.row.Row.put_span.Goals as goal

pub span-init : goal.span-init
span-init c = record { width = refl; near = omega arith; put = λ k. span_begins (has c.args.self.now k) c.args.first k }

pub span-preserved : goal.span-preserved
span-preserved c =
    let w = c.put.ensures.width in
    let before = c.span.invariant.width in
    let from = c.span.auto.position in
    record {
      width = w ∙ before;
      near = omega arith;
      put = λ k.
          c.put.ensures.put k ∙ ap (λ (b : Bool). cond (k == c.span.position) true b) (c.span.invariant.put k)
          ∙ span_grows (has c.args.self.now k) c.args.first c.span.position k from;
    }

pub returns : goal.returns
returns c =
    let near = c.span.invariant.near in
    record {
      put = λ k.
          c.span.invariant.put k ∙ ap (λ (b : Bool). has c.args.self.now k || b) (span_ends c.args.first c.args.last c.span.position k c.span-test.false near);
      width = c.span.invariant.width;
    }

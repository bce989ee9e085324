use Rattle.std.proofs.Common.{Bool, ◌||◌, ◌&&◌, ◌==◌, not, ◌∙◌, ap, ap₂}
use Rattle.std.specs.Int.{bit_at}
use Rattle.pattern_rows.proofs.Bits.{no_span_bit, span_bit}
use Rattle.pattern_rows.proofs.word.with_span.Goals as goal

pub returns-then-last-first : goal.returns-then-last-first
returns-then-last-first c = record { bits = λ k. no_span_bit (bit_at c.args.a k == 1) c.args.first c.args.last k c.if-last-first.true }

pub returns : goal.returns
returns c =
    record {
      bits = λ k.
          c.either.ensures.bits k
          ∙ ap (λ (b : Bool). (bit_at c.args.a k == 1) || b)
          (c.without-span.ensures.bits k
          ∙ ap₂ (λ (x y : Bool). x && not y) (c.ones-to_last.ensures.bits k) (c.without-before.ensures.bits k ∙ ap₂ (λ (x y : Bool). x && not y) (c.ones-to_first.ensures.bits k) (c.with-at_first.ensures.bits k))
          ∙ span_bit c.args.first c.args.last k);
    }

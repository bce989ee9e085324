use Rattle.std.proofs.Common.{ℕ, ap, ◌∷◌, ◌%◌, ◌/◌, ◌-◌, ◌∙◌, ◌==◌, cond, true, arith, refl, length}
use Rattle.std.proofs.lemmas.List.{get_or_read_under}
use Rattle.std.specs.Prelude.{slice_set}
use Rattle.pattern_rows.specs.Rows.{has}
use Rattle.pattern_rows.proofs.Words.{Bit, put_bits, put_low, put_high}
use Rattle.pattern_rows.proofs.row.Row.put.Goals as goal

pub returns-then-position-lt64-clause-put : goal.returns-then-position-lt64-clause-put
unfolding has
returns-then-position-lt64-clause-put c =
    let s = c.args.self.now in
    put_bits (s.low ∷ s.high.items) (c.with-self.result ∷ s.high.items) c.args.position
    (put_low s.low c.with-self.result s.high.items c.args.position c.if-position-lt64.true c.with-self.ensures.bits)

pub returns-else-position-lt64-clause-put : goal.returns-else-position-lt64-clause-put
unfolding has
returns-else-position-lt64-clause-put c =
    let s = c.args.self.now in
    let at = c.args.position / 64 - 1 in
    put_bits (s.low ∷ s.high.items) (s.low ∷ slice_set s.high.items at c.with.result) c.args.position
    (put_high s.low s.high.items c.with.result c.args.position (omega arith) (omega arith)
    (λ k. c.with.ensures.bits k ∙ ap (λ (w : ℕ). cond (k == c.args.position % 64) true (Bit w k)) (get_or_read_under s.high.items at (length s.high.items) c.index.result.now 0 c.index.ensures (omega arith) refl)))

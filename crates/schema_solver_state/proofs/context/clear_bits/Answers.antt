use Rattle.std.proofs.Common.{◌≡◌, ◌∙◌, ◌&&◌, ◌<◌, ℕ, List, ap, arith, get_or, length, not, subst, sym, take}
use Rattle.schema_run_context.specs.Progress.{has_number}
use Rattle.schema_run_context.specs.Rows.{has_bit, row_in}
use Rattle.schema_run_context.proofs.RowsChanged.{number_if}
use Rattle.schema_solver_state.specs.ContextViews.{has_number_pair}
use Rattle.schema_run_context.specs.declared.numbered_pairs.NumberedPair.{NumberedPair}
use Rattle.schema_solver_state.proofs.Assuming.{cleared_more, take_next}
use Rattle.schema_solver_state.proofs.context.clear_bits.Goals as goal

pub put_bit-requires : goal.put_bit-requires
put_bit-requires c =
    let es = c.args.pairs.now in
    let i = c.loop-pair.pair-index in
    let none : NumberedPair = record { node = record { 0 = 0 }; place = 0 } in
    let e = get_or es i none in
    let its = c.requires.there.there i none (omega (arith, c.loop-pair-test.true)) in
    let size = c.loop-pair.invariant.wide c.requires.there.words c.requires.there.wide e.node.0 (c.loop-pair.invariant.there e.node.0 ∙ its.1) in
    record { there = omega (arith, size, its.0) }

pub loop-pair-preserved : goal.loop-pair-preserved
loop-pair-preserved c =
    let es = c.args.pairs.now in
    let i = c.loop-pair.pair-index in
    let none : NumberedPair = record { node = record { 0 = 0 }; place = 0 } in
    let put = c.put_bit.ensures.put in
    let new = c.put_bit.new.self in
    let within : i < length es = omega (arith, c.loop-pair-test.true) in
    let cleared = cleared_more (take i es) (get_or es i none) c.args.rows.now c.loop-pair.rows new c.loop-pair.invariant.bits put in
    record {
      bits = subst (λ (xs : List NumberedPair). (n k : ℕ) → has_bit (row_in new n) k ≡ (has_bit (row_in c.args.rows.now n) k && not (has_number_pair xs n k))) (sym (take_next es i none within)) cleared;
      wide = λ w old. put.wide w (c.loop-pair.invariant.wide w old);
      there = λ n. sym (number_if new n) ∙ ap (has_number n) put.numbers ∙ number_if c.loop-pair.rows n ∙ c.loop-pair.invariant.there n;
    }

use Rattle.std.proofs.Common.{◌≡◌, ◌∙◌, ◌*◌, ◌+◌, ◌<◌, true, ap, arith, length, subst, sym}
use Rattle.schema_run_context.specs.Progress.{row_words}
use Rattle.schema_run_context.specs.Rows.{AreWide, PutsBit}
use Rattle.schema_run_context.proofs.Entering.{in_row, row_kept}
use Rattle.schema_run_context.proofs.VerdictRows.{remembered}
use Rattle.schema_solver_state.proofs.context.keep_verdict.Goals as goal

pub put_bit-requires-2 : goal.put_bit-requires-2
put_bit-requires-2 c =
    let words = c.row_words-words.result in
    let width : words ≡ row_words c.args.places = c.row_words-words.ensures.words in
    let wide : AreWide (2 * words) c.args.known.now = subst (λ v. AreWide (2 * v) c.args.known.now) (sym width) c.requires.wide in
    let size = row_kept c.args.node (2 * words) (64 * 0 + c.args.place) true c.args.known.now c.make_row.new.self c.put_bit.new.self c.in_ok-make_row.ensures.made c.put_bit.ensures.put wide in
    let within = in_row words c.args.place c.args.places width c.requires.within in
    record { there = omega (arith, size, within) }

pub returns-clause-kept : goal.returns-clause-kept
returns-clause-kept c ps own many =
    let n = c.args.node in
    let k = c.args.place in
    let words = c.row_words-words.result in
    let width : words ≡ row_words (length ps) = c.row_words-words.ensures.words ∙ ap row_words (sym many) in
    let known = subst (λ m. k < m) (sym many) c.requires.within in
    let here : 64 * 0 + k ≡ k = omega arith in
    let first = subst (λ b. PutsBit n b true c.make_row.new.self c.put_bit.new.self) here c.put_bit.ensures.put in
    let second = subst (λ v. PutsBit n (64 * v + k) c.args.verdict c.put_bit.new.self c.put_bit-2.new.self) width c.put_bit-2.ensures.put in
    remembered n k c.args.verdict ps c.args.known.now c.make_row.new.self c.put_bit.new.self c.put_bit-2.new.self own known c.in_ok-make_row.ensures.made.bits first second

pub returns-clause-wide : goal.returns-clause-wide
returns-clause-wide c =
    let words = c.row_words-words.result in
    let width : words ≡ row_words c.args.places = c.row_words-words.ensures.words in
    let wide : AreWide (2 * words) c.args.known.now = subst (λ v. AreWide (2 * v) c.args.known.now) (sym width) c.requires.wide in
    subst (λ v. AreWide (2 * v) c.put_bit-2.new.self) width (c.put_bit-2.ensures.put.wide (2 * words) (c.put_bit.ensures.put.wide (2 * words) (c.in_ok-make_row.ensures.made.wide wide)))

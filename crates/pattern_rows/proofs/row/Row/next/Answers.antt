use Rattle.std.proofs.Common.{ℕ, suc, ap, ◌%◌, ◌/◌, ◌+◌, ◌*◌, ◌∙◌, ◌≡◌, ◌≤◌, sym, subst, arith, get_or, length, refl}
use Rattle.std.proofs.lemmas.List.{get_or_read_under}
use Rattle.pattern_rows.specs.Rows.{has, bit_of, words_of}
use Rattle.pattern_rows.proofs.Words.{Bit, NoneBelow, NoBitFrom, none_first, none_next, none_at_all, bit_of_at, within_words}
use Rattle.pattern_rows.proofs.row.Row.next.Goals as goal

pub returns-in-Some : goal.returns-in-Some
unfolding has
returns-in-Some c =
    let words = words_of c.args.self.now in
    let q = c.args.from / 64 in
    let bit = c.in-Some.bit in
    let found = c.in-Some.ensures.lowest in
    let from_on = found.0 in
    let small = found.1 in
    let word = c.word.ensures.word in
    record {
      next = (
        omega arith,
        bit_of_at words q bit small ∙ ap (λ (w : ℕ). Bit w bit) (sym word) ∙ found.2,
        none_first words c.args.from bit (omega arith) (subst (λ (w : ℕ). NoBitFrom w (c.args.from % 64) bit) word found.3),
        (let r = within_words words (q * 64 + bit) (bit_of_at words q bit small ∙ ap (λ (w : ℕ). Bit w bit) (sym word) ∙ found.2) in omega (arith, r)),
      );
    }

pub returns-in-Some-lowest : goal.returns-in-Some-lowest
unfolding has
returns-in-Some-lowest c =
    let words = words_of c.args.self.now in
    let high = c.args.self.now.high.items in
    let at = c.loop-at.at in
    let bit = c.in-Some-lowest.bit in
    let found = c.in-Some-lowest.ensures.lowest in
    let small = found.1 in
    let word = get_or_read_under high at (length high) c.index.result.now 0 c.index.ensures (omega arith) refl in
    let up : at + 1 ≡ suc at = omega arith in
    let next : get_or words (at + 1) 0 ≡ get_or high at 0 = ap (λ (k : ℕ). get_or words k 0) up in
    let place : at * 64 + 64 + bit ≡ (at + 1) * 64 + bit = omega arith in
    let from_word : c.args.from / 64 ≤ at = omega arith in
    record {
      next = (
        omega arith,
        ap (λ (k : ℕ). bit_of words k) place ∙ bit_of_at words (at + 1) bit small ∙ ap (λ (w : ℕ). Bit w bit) (next ∙ sym word) ∙ found.2,
        subst (λ (k : ℕ). NoneBelow words c.args.from k) (sym place)
            (none_next words c.args.from (at + 1) bit (omega arith) c.loop-at.invariant (subst (λ (w : ℕ). NoBitFrom w 0 bit) (word ∙ sym next) found.3)),
        omega (arith, small),
      );
    }

pub returns : goal.returns
unfolding has
returns c =
    record { next = none_at_all (words_of c.args.self.now) c.args.from (c.loop-at.at + 1) (omega arith) c.loop-at.invariant }

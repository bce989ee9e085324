use Rattle.std.proofs.Common.{ℕ, List, subst, sym, ◌∷◌, ◌/◌, ◌-◌}
use Rattle.std.specs.Prelude.{slice_set}
use Rattle.pattern_rows.specs.Rows.{has}
use Rattle.pattern_rows.proofs.Words.{IsFullTo, full_bits, full_long, full_short}
use Rattle.pattern_rows.proofs.row.Row.full.Goals as goal

pub returns-then-words-eq0-clause-all : goal.returns-then-words-eq0-clause-all
unfolding has
returns-then-words-eq0-clause-all c =
    let top = c.ones-top.result in
    full_bits c.args.last top (top ∷ c.new.result.items)
    (subst (λ (ws : List ℕ). IsFullTo c.args.last top (top ∷ ws)) (sym c.new.ensures.items) (full_short c.args.last top c.if-words-eq0.true))
    c.ones-top.ensures.bits

pub returns-clause-all : goal.returns-clause-all
unfolding has
returns-clause-all c =
    let top = c.ones-top.result in
    let n = c.args.last / 64 in
    full_bits c.args.last top (18446744073709551615 ∷ slice_set c.in_ok-high.high.items (n - 1) top)
    (subst (λ (ws : List ℕ). IsFullTo c.args.last top (18446744073709551615 ∷ slice_set ws (n - 1) top)) (sym (c.in_ok-high.ensures.items_if_clones_equal (λ y h. h))) (full_long c.args.last top c.if-words-eq0.false))
    c.ones-top.ensures.bits

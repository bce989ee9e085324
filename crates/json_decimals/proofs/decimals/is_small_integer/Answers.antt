use Rattle.std.proofs.Common.{◌≡◌, ◌∙◌, ◌%◌, ◌*◌, ◌^◌, ◌==◌, ◌&&◌, ltb, true, false, ap, sym, arith}
use lib.Ieee.Positive.{den, den_pos, num}
use Rattle.json_decimals.specs.Decimals.{exact}
use Rattle.json_decimals.proofs.Worths.{below_is, one_amount, whole_is}
use Rattle.json_decimals.proofs.decimals.is_small_integer.Goals as goal

pub returns-then-x : goal.returns-then-x
returns-then-x c =
    let x = c.args.x in
    let small : ltb (num x) (2 ^ 64 * den x) ≡ true = sym (below_is x c.requires.finite c.requires.positive) ∙ c.if-x.true in
    let whole = c.is_multiple_of.ensures.multiple (exact x) (record { over = 1; under = 1 }) c.requires.amount one_amount (den_pos x) (omega arith) in
    record { value = whole ∙ whole_is x ∙ ap (λ b. b && (num x % den x == 0)) (sym small) }

pub returns-else-x : goal.returns-else-x
returns-else-x c =
    let x = c.args.x in
    let large : ltb (num x) (2 ^ 64 * den x) ≡ false = sym (below_is x c.requires.finite c.requires.positive) ∙ c.if-x.false in
    record { value = c.if-x.false ∙ ap (λ b. b && (num x % den x == 0)) (sym large) }

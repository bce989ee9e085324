-- A size as the code represents it: digits without the factors 2 and 5, times a power of two and a
-- power of five. One size is a multiple of another if its digits are a multiple of the other's
-- digits, and neither power is smaller. So no number grows with the exponents.
use Rattle.std.specs.Prelude.{ℕ, ◌⊎◌, ◌≡◌, ◌≢◌, ◌%◌, ◌*◌, ◌^◌}
use Rattle.json_decimals.specs.Decimals.{Fraction}
use Rattle.json_decimals.specs.declared.amounts.Amount.{Amount}

-- the number 1, in units of 2 ^ -1074 * 5 ^ -400
unfoldable pub one : ℕ
one = 2 ^ 1074 * 5 ^ 400

-- an amount in these units
abbrev pub units : Amount → ℕ
units a = a.digits * 2 ^ a.twos * 5 ^ a.fives

-- neither 2 nor 5 divides the digits, or they are 0
abbrev pub IsReduced : ℕ → Type 0
IsReduced digits = (digits ≡ 0) ⊎ ((digits % 2 ≡ 1) × (digits % 5 ≢ 0))

abbrev pub IsAmountOf : Fraction → Amount → Type 0
IsAmountOf f a = (f.over * one ≡ units a * f.under) × IsReduced a.digits

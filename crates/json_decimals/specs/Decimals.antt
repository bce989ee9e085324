-- A JSON number stands for the decimal that was written (RFC 8259, 6: a number is a decimal text).
-- An integer of 64 bits is held without loss, and so stands for itself. Another number is held as
-- the binary64 float nearest to it, and the text is lost. Such a float stands for the decimal of at
-- most 15 significant digits that reads as it, if there is one, else for its exact value. 15 digits
-- survive the way through a float, so this is the decimal that was written, if that had no more
-- (`Reading.written_as`).
--
-- Two kinds of float stand for their exact value at once. An integer below 2 ^ 64 might as well be
-- held as an integer, and equal numbers stand for one value. Below 2 ^ -1022, the least normal
-- float, floats have fewer digits than 15, and several short decimals read as one float.
--
-- The sign is left out: it has no part in whether a number is a multiple.
use Rattle.std.specs.Prelude.{Bool, None, Option, Some, false, not, zero, ℕ, ℤ, negsuc, pos, suc, ltb, leb, ◌%◌, ◌*◌, ◌^◌, ◌==◌, ◌&&◌, if◌then◌else◌}
use Rattle.std.specs.Float.{Float, binary64, float_with_sign, is_normal, ratio_round_half_up}
use lib.Ieee.{eq, round}
use lib.Ieee.Positive.{den, num}
use Rattle.serde_json.specs.Data.{Num, float, negative, unsigned}

-- a number that is not negative, as a fraction
pub record Fraction : Type 0 where
  pub over : ℕ
  pub under : ℕ

-- digits * 10 ^ (power - 400), so that powers are natural numbers
abbrev pub decimal : ℕ → ℕ → Fraction
decimal digits power = record { over = digits * 10 ^ power; under = 10 ^ 400 }

-- the float that a decimal reads as: the nearest one
abbrev pub read : ℕ → ℕ → Float
read digits power = round binary64 false (digits * 10 ^ power) (10 ^ 400)

-- (the floats below are not negative)

-- the float in units of 10 ^ (power - 400), as the nearest whole number
abbrev pub digits_at : Float → ℕ → ℕ
digits_at x power = ratio_round_half_up (num x * 10 ^ 400) (den x * 10 ^ power)

-- Those digits are at most 15, and read as the float. (10 ^ 15 is one digit at a larger power.)
abbrev pub is_short_at : Float → ℕ → Bool
is_short_at x power = leb (digits_at x power) (10 ^ 15) && eq (read (digits_at x power) power) x

-- The largest power below n that is one of a short decimal. The others that there may be write the
-- same decimal with zeros at its end (`Uniqueness.same_decimal`).
unfoldable pub short_power : Float → ℕ → Option ℕ
short_power x zero = None
short_power x (suc n) = if is_short_at x n then Some n else short_power x n

abbrev pub exact : Float → Fraction
exact x = record { over = num x; under = den x }

abbrev pub decimal_or_exact : Float → Option ℕ → Fraction
decimal_or_exact x None = exact x
decimal_or_exact x (Some power) = decimal (digits_at x power) power

-- an integer below 2 ^ 64
abbrev pub is_small_integer : Float → Bool
is_small_integer x = ltb (num x) (2 ^ 64 * den x) && (num x % den x == 0)

-- (a decimal of at most 15 digits that reads as a normal float has its last digit between 10 ^ -400
-- and 10 ^ 400)
abbrev pub written : Float → Fraction
written x =
    if is_normal binary64 x && not (is_small_integer x)
    then decimal_or_exact x (short_power x 801)
    else exact x

abbrev pub size_of_integer : ℤ → Fraction
size_of_integer (pos n) = record { over = n; under = 1 }
size_of_integer (negsuc n) = record { over = suc n; under = 1 }

-- the size of the number that was written
abbrev pub size_of : Num → Fraction
size_of (unsigned n) = record { over = n; under = 1 }
size_of (negative z) = size_of_integer z
size_of (float x) = written (float_with_sign false x)

-- JSON numbers as exact mathematical numbers: their order, and which of them are integers. (JSON
-- Schema Validation 2020-12, 6.1.1 and 6.2.2 to 6.2.5)
use Rattle.std.specs.Prelude.{Bool, IsTrue, None, Option, Some, false, int_lt, suc, true, ℕ, ℤ, negsuc, pos, ◌%◌, ◌==◌, ◌&&◌, if◌then◌else◌}
use Rattle.std.specs.Float.{Float, fin, float_is_finite, float_to_unsigned}
use Rattle.std.specs.Int.{w64}
use Rattle.std.specs.Ordering.{is_eq, is_le, is_lt, nan_last_cmp}
use Rattle.std.specs.declared.cmp.Ordering.{Ordering}
use lib.Ieee.Positive.{den, num}
use Rattle.serde_json.specs.Data.{Num, float, negative, unsigned}
use Rattle.json_values.specs.declared.numbers.Kind.{Kind}
use Rattle.json_values.specs.declared.numbers.Kind.TheVariants as kinds

-- An integer without rounding: `fin s m e` is the number m * 2 ^ e of any size, negative if s is
-- true.
abbrev pub value_of_integer : ℤ → Float
value_of_integer (pos n) = fin false n (pos 0)
value_of_integer (negsuc n) = fin true (suc n) (pos 0)

-- the exact value of a JSON number
abbrev pub value_of : Num → Float
value_of (unsigned n) = fin false n (pos 0)
value_of (negative z) = value_of_integer z
value_of (float x) = x

-- the order of numbers, which are never NaN
abbrev pub order : Num → Num → Ordering
order x y = nan_last_cmp (value_of x) (value_of y)

abbrev pub less : Num → Num → Bool
less x y = is_lt (order x y)

abbrev pub at_most : Num → Num → Bool
at_most x y = is_le (order x y)

abbrev pub same_number : Num → Num → Bool
same_number x y = is_eq (order x y)

-- (the absolute value of a number is the fraction `num` / `den`)

-- the number is an integer: 1.0 is one
abbrev pub is_whole : Num → Bool
is_whole x = num (value_of x) % den (value_of x) == 0

-- The number as a natural number, if it is one: 2.0 is 2. A float above 2 ^ 64 - 1, which no length
-- or count here reaches, counts as 2 ^ 64 - 1.
abbrev pub natural_of : Num → Option ℕ
natural_of (unsigned n) = Some n
natural_of (negative z) = None
natural_of (float x) = if is_whole (float x) && at_most (unsigned 0) (float x) then Some (float_to_unsigned w64 x) else None

-- ---- the code's representation of a number

abbrev pub num_of : Kind → Num
num_of (kinds.Natural n) = unsigned n
num_of (kinds.Negative z) = negative z
num_of (kinds.Fraction x) = float x

-- a number of kind `Negative` is below 0, and a fraction is finite
abbrev pub IsProper : Kind → Type 0
IsProper (kinds.Natural n) = Unit {0}
IsProper (kinds.Negative z) = IsTrue (int_lt z (pos 0))
IsProper (kinds.Fraction x) = IsTrue (float_is_finite x)

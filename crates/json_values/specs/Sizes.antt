-- The size of a number, as the code represents it: odd digits times a power of two. The number is
-- an integer if its power is that of 1 at least. (JSON Schema Validation 2020-12, 6.1.1)
use Rattle.std.specs.Prelude.{◌⊎◌, ℕ, ◌≡◌, ◌%◌, ◌*◌, ◌^◌}
use Rattle.std.specs.Float.{Float}
use lib.Ieee.Positive.{den, num}
use Rattle.json_values.specs.declared.wholes.Size.{Size}

-- the number 1 in units of 2 ^ -1074, the smallest float
unfoldable pub one : ℕ
one = 2 ^ 1074

-- a size in units of 2 ^ -1074
abbrev pub units : Size → ℕ
units s = s.digits * 2 ^ s.power

-- the power of two is as large as possible: the digits are odd or 0
abbrev pub IsReduced : ℕ → Type 0
IsReduced digits = (digits ≡ 0) ⊎ (digits % 2 ≡ 1)

abbrev pub IsSizeOf : Float → Size → Type 0
IsSizeOf x s = (num x * one ≡ units s * den x) × IsReduced s.digits

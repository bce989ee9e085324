-- A number is a multiple of another if their quotient is an integer (JSON Schema Validation
-- 2020-12, 6.2.1). Each stands for the decimal that was written, so 4.35 is a multiple of 0.01.
use Rattle.std.specs.Prelude.{Bool, ◌%◌, ◌*◌, ◌==◌}
use Rattle.serde_json.specs.Data.{Num}
use Rattle.json_decimals.specs.Decimals.{Fraction, size_of}

-- the fraction (x.over * d.under) / (d.over * x.under) is an integer; of a d of 0, x is 0 too
abbrev pub divides : Fraction → Fraction → Bool
divides d x = (x.over * d.under) % (d.over * x.under) == 0

unfoldable pub is_multiple_of : Num → Num → Bool
is_multiple_of x d = divides (size_of d) (size_of x)

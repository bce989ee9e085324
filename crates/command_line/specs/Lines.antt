-- Lines, as lists of bytes.
use Rattle.std.specs.Prelude.{List, Some, if◌then◌else◌, length, nat_eq, slice_get, take, ℕ, ◌-◌}
use Rattle.std.specs.Option.{option_eq}

-- the bytes without this one, if it is the last
abbrev pub without_last : ℕ → List ℕ → List ℕ
without_last byte xs = if option_eq nat_eq (slice_get xs (length xs - 1)) (Some byte) then take (length xs - 1) xs else xs

-- the bytes without a line feed at the end, and then without a carriage return at the end
abbrev pub without_ending : List ℕ → List ℕ
without_ending xs = without_last 13 (without_last 10 xs)

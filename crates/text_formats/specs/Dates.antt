-- Dates and times of day: `full-date`, `full-time` and `date-time`. (RFC 3339, sections 5.6 and 5.7
-- and appendix C)
use Rattle.std.specs.Prelude.{Bool, None, Option, Some, [], codes, drop, false, if◌then◌else◌, nat_le, not, take, ◌%◌, ◌&&◌, ◌*◌, ◌+◌, ◌-◌, ◌==◌, ◌||◌, ◌∷◌, ℕ}
use Rattle.text_formats.specs.Characters.{Text, fits, four, two}
use Rattle.text_formats.specs.Cutting.{after_digits, is_empty}

-- a year is a leap year if it is divisible by 4, unless it is divisible by 100 but not by 400 (RFC
-- 3339, appendix C)
abbrev pub is_leap_year : ℕ → Bool
is_leap_year y = (y % 4 == 0) && (not (y % 100 == 0) || (y % 400 == 0))

-- the number of days in a month of a year (RFC 3339, section 5.7)
abbrev pub days_in : ℕ → ℕ → ℕ
days_in y m =
    if m == 2 then (if is_leap_year y then 29 else 28)
    else if (m == 4) || (m == 6) || (m == 9) || (m == 11) then 30
    else 31

-- the month of the year has this day
abbrev pub is_day : ℕ → ℕ → ℕ → Bool
is_day y m d = nat_le 1 m && nat_le m 12 && nat_le 1 d && nat_le d (days_in y m)

-- full-date = 4DIGIT "-" 2DIGIT "-" 2DIGIT, if the month of the year has this day
abbrev pub is_date : Text → Bool
is_date t = fits (codes "0000-00-00") t && is_day (four t 0) (two t 5) (two t 8)

-- the minutes by which UTC is ahead, modulo the day of 1440 minutes: 60 at `-01:00`, which is
-- behind UTC, and 1380 at `+01:00`
abbrev pub ahead : ℕ → ℕ → ℕ
ahead s minutes = if s == 45 then minutes else 1440 - minutes

-- time-numoffset = ("+" / "-") 2DIGIT ":" 2DIGIT, at most 23 hours and 59 minutes
abbrev pub signed_offset : ℕ → Text → Option ℕ
signed_offset s t = if fits (codes "00:00") t && nat_le (two t 0) 23 && nat_le (two t 3) 59
    then Some (ahead s (60 * two t 0 + two t 3)) else None

-- time-offset = "Z" / time-numoffset, with `z` allowed for `Z`: the minutes by which UTC is ahead
abbrev pub offset : Text → Option ℕ
offset [] = None
offset (s ∷ t) =
    if ((s == 90) || (s == 122)) && is_empty t then Some 0
    else if (s == 43) || (s == 45) then signed_offset s t
    else None

-- the text after time-secfrac = "." 1*DIGIT, or the text itself if it has none
abbrev pub after_fraction : Text → Option Text
after_fraction [] = Some []
after_fraction (c ∷ cs) = if c == 46 then after_digits cs else Some (c ∷ cs)

abbrev pub offset_after : Option Text → Option ℕ
offset_after None = None
offset_after (Some t) = offset t

-- a second is 0 to 59; it may be 60 in the last minute of a day in UTC, to which leap seconds are
-- added (RFC 3339, section 5.7 and appendix D)
abbrev pub is_second : ℕ → ℕ → Option ℕ → Bool
is_second second minutes None = false
is_second second minutes (Some minutes_ahead) =
    nat_le second 59 || ((second == 60) && ((minutes + minutes_ahead) % 1440 == 1439))

-- 2DIGIT ":" 2DIGIT ":" 2DIGIT, and the rest of the text up to its end
abbrev pub is_time_of_day : Text → Text → Bool
is_time_of_day t left = fits (codes "00:00:00") t && nat_le (two t 0) 23 && nat_le (two t 3) 59
    && is_second (two t 6) (60 * two t 0 + two t 3) (offset_after (after_fraction left))

-- full-time = 2DIGIT ":" 2DIGIT ":" 2DIGIT [time-secfrac] time-offset
abbrev pub is_time : Text → Bool
is_time t = is_time_of_day (take 8 t) (drop 8 t)

-- "T" full-time, with `t` allowed for `T`
abbrev pub is_time_after_t : Text → Bool
is_time_after_t [] = false
is_time_after_t (c ∷ cs) = ((c == 84) || (c == 116)) && is_time cs

-- date-time = full-date "T" full-time; a date has ten characters
abbrev pub is_date_time : Text → Bool
is_date_time t = is_date (take 10 t) && is_time_after_t (drop 10 t)

-- Durations. (RFC 3339, appendix A) Their letters may be small too, since the texts of a grammar
-- have no case. (RFC 5234, section 2.3)
use Rattle.std.specs.Prelude.{Bool, None, Option, Some, [], false, if◌then◌else◌, option_and_then, ◌&&◌, ◌||◌, ◌∷◌, ℕ}
use Rattle.std.specs.Char.{eq_ignore_ascii_case}
use Rattle.text_formats.specs.Characters.{Text}
use Rattle.text_formats.specs.Cutting.{after_digits, is_empty}

-- the text after this letter, capital or small, if the text begins with it
abbrev pub after_letter : ℕ → Text → Option Text
after_letter letter [] = None
after_letter letter (c ∷ cs) = if eq_ignore_ascii_case c letter then Some cs else None

-- the text after 1*DIGIT and a unit
abbrev pub after_count : ℕ → Text → Option Text
after_count unit t = option_and_then (after_letter unit) (after_digits t)

-- there is such a text, and it is empty
abbrev pub is_last : Option Text → Bool
is_last None = false
is_last (Some t) = is_empty t

-- dur-second = 1*DIGIT "S"
abbrev pub is_seconds : Text → Bool
is_seconds t = is_last (after_count 83 t)

-- dur-minute = 1*DIGIT "M" [dur-second]
abbrev pub is_minutes_end : Option Text → Bool
is_minutes_end None = false
is_minutes_end (Some t) = is_empty t || is_seconds t

abbrev pub is_minutes : Text → Bool
is_minutes t = is_minutes_end (after_count 77 t)

-- dur-hour = 1*DIGIT "H" [dur-minute]
abbrev pub is_hours_end : Option Text → Bool
is_hours_end None = false
is_hours_end (Some t) = is_empty t || is_minutes t

abbrev pub is_hours : Text → Bool
is_hours t = is_hours_end (after_count 72 t)

-- dur-time = "T" (dur-hour / dur-minute / dur-second)
abbrev pub is_clock : Text → Bool
is_clock [] = false
is_clock (c ∷ cs) = eq_ignore_ascii_case c 84 && (is_hours cs || is_minutes cs || is_seconds cs)

-- the rest after the days, months or years of a dur-date, up to the end: [dur-time]
abbrev pub is_end : Text → Bool
is_end t = is_empty t || is_clock t

-- dur-day = 1*DIGIT "D"
abbrev pub is_days_end : Option Text → Bool
is_days_end None = false
is_days_end (Some t) = is_end t

abbrev pub is_days : Text → Bool
is_days t = is_days_end (after_count 68 t)

-- dur-month = 1*DIGIT "M" [dur-day]
abbrev pub is_months_end : Option Text → Bool
is_months_end None = false
is_months_end (Some t) = is_end t || is_days t

abbrev pub is_months : Text → Bool
is_months t = is_months_end (after_count 77 t)

-- dur-year = 1*DIGIT "Y" [dur-month]
abbrev pub is_years_end : Option Text → Bool
is_years_end None = false
is_years_end (Some t) = is_end t || is_months t

abbrev pub is_years : Text → Bool
is_years t = is_years_end (after_count 89 t)

-- dur-week = 1*DIGIT "W"
abbrev pub is_weeks : Text → Bool
is_weeks t = is_last (after_count 87 t)

-- duration = "P" (dur-date / dur-time / dur-week), where dur-date = (dur-day / dur-month / dur-year) [dur-time]
abbrev pub is_duration : Text → Bool
is_duration [] = false
is_duration (c ∷ cs) = eq_ignore_ascii_case c 80 && (is_days cs || is_months cs || is_years cs || is_clock cs || is_weeks cs)

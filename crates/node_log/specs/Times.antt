-- Times of the log, in UTC.
use Rattle.std.specs.Prelude.{◌≡◌, ◌+◌, ◌*◌, ◌/◌, ◌%◌, ℕ, List, [], ◌∷◌, min, pos, unsigned_abs}
use Rattle.jiff_core.specs.DateTime.{civil_nanos}
use Rattle.jiff_core.specs.declared.civil.datetime.DateTime.{DateTime}

-- the last digit of a number
abbrev pub digit : ℕ → ℕ
digit n = 48 + n % 10

abbrev pub two_digits : ℕ → List ℕ → List ℕ
two_digits n rest = digit (n / 10) ∷ digit n ∷ rest

abbrev pub three_digits : ℕ → List ℕ → List ℕ
three_digits n rest = digit (n / 100) ∷ two_digits n rest

abbrev pub four_digits : ℕ → List ℕ → List ℕ
four_digits n rest = digit (n / 1000) ∷ three_digits n rest

-- a date and a time of day as `2026-11-28T12:00:00.123Z`: between the numbers stand `-` (45), `T` (84), `:` (58) and `.` (46), and `Z` (90) behind
abbrev pub time_text : DateTime → List ℕ
time_text at =
    four_digits (unsigned_abs at.date.year) (45 ∷ two_digits at.date.month (45 ∷ two_digits at.date.day
    (84 ∷ two_digits at.time.hour (58 ∷ two_digits at.time.minute (58 ∷ two_digits at.time.second
    (46 ∷ three_digits (at.time.subsec_nanosecond / 1000000) (90 ∷ [])))))))

-- The text says the time that many milliseconds after the beginning of 1970, by the calendar. The last one of the year 9999 stands for
-- those after it.
abbrev pub IsTime : ℕ → List ℕ → Type 0
IsTime milliseconds text = (at : DateTime) × (civil_nanos at ≡ pos (min milliseconds 253402300799999 * 1000000)) × (text ≡ time_text at)

-- Moments, in seconds from 1970-01-01T00:00:00Z, and their text `YYYY-MM-DDTHH:MM:SSZ`. Source: RFC 3339 section 5.6, in
-- UTC and without fractions of a second. The calendar is the proleptic Gregorian one of jiff_core.
use Rattle.std.specs.Prelude.{ℕ, zero, suc, zip, length, ◌+◌, ◌-◌, ◌*◌, ◌/◌, ◌%◌, List, [], ◌∷◌, ◌++◌, Bool, ◌&&◌, ◌==◌, if◌then◌else◌, nat_lt, int_lt, codes, slice_index, Option, Some, None, ℤ, pos, neg_ℤ, ◌+ℤ◌, ◌-ℤ◌, ◌*ℤ◌, unsigned_abs}
use Rattle.std.specs.Char.{is_ascii_digit}
use Rattle.std.specs.Int.{is_in_range}
use Rattle.std.specs.List.{list_all}
use Rattle.jiff_core.specs.Calendar.{days_in_month, days_from_civil}

-- A day of the calendar.
pub record Date : Type 0 where
  pub year : ℕ
  pub month : ℕ
  pub day : ℕ

-- A day, and a time of day.
pub record Civil : Type 0 where
  pub date : Date
  pub hour : ℕ
  pub minute : ℕ
  pub second : ℕ

-- The calendar has the day, in the years 0001 to 9999.
abbrev pub is_date : Date → Bool
is_date d = is_in_range 1 9999 d.year && is_in_range 1 12 d.month && is_in_range 1 (days_in_month (pos d.year) d.month) d.day

-- A clock without leap seconds shows the time.
abbrev pub is_clock : Civil → Bool
is_clock c = nat_lt c.hour 24 && nat_lt c.minute 60 && nat_lt c.second 60

-- The seconds from midnight.
abbrev pub clock_seconds : Civil → ℕ
clock_seconds c = 3600 * c.hour + 60 * c.minute + c.second

-- The seconds from 1970-01-01T00:00:00Z.
abbrev pub seconds_of : Civil → ℤ
seconds_of c = days_from_civil (pos c.date.year) c.date.month c.date.day *ℤ pos 86400 +ℤ pos (clock_seconds c)

-- A byte is as the template has it, in which `0`, which is 48, stands for any digit.
abbrev pub fits : ℕ → ℕ → Bool
fits template b = if template == 48 then is_ascii_digit b else (template == b)

-- The text is as long as the template, and fits it byte by byte.
abbrev pub has_form : List ℕ → Bool
has_form t = (length t == 20) && list_all (λ p. fits p.0 p.1) (zip (codes "0000-00-00T00:00:00Z") t)

-- The number that the two digits from a place on spell.
abbrev pub two_at : List ℕ → ℕ → ℕ
two_at t at = 10 * (slice_index t at - 48) + (slice_index t (at + 1) - 48)

-- What a text of the form spells.
abbrev pub civil_of : List ℕ → Civil
civil_of t = record {
  date = record { year = 100 * two_at t 0 + two_at t 2; month = two_at t 5; day = two_at t 8 };
  hour = two_at t 11;
  minute = two_at t 14;
  second = two_at t 17;
}

-- The moment that a text names.
unfoldable pub second_of : List ℕ → Option ℤ
second_of t = if has_form t && is_date (civil_of t).date && is_clock (civil_of t) then Some (seconds_of (civil_of t)) else None

-- 0001-01-01T00:00:00Z.
abbrev pub first_second : ℤ
first_second = neg_ℤ (pos 62135596800)

-- 9999-12-31T23:59:59Z.
abbrev pub last_second : ℤ
last_second = pos 253402300799

-- The nearest moment of the years 0001 to 9999.
abbrev pub nearest : ℤ → ℤ
nearest z = if int_lt z first_second then first_second else (if int_lt last_second z then last_second else z)

-- The day after a day.
abbrev pub next_day : Date → Date
next_day d =
    if nat_lt d.day (days_in_month (pos d.year) d.month) then record { year = d.year; month = d.month; day = d.day + 1 }
    else (if nat_lt d.month 12 then record { year = d.year; month = d.month + 1; day = 1 }
    else record { year = d.year + 1; month = 1; day = 1 })

-- The day that many days after 0001-01-01.
unfoldable pub date_after : ℕ → Date
date_after zero = record { year = 1; month = 1; day = 1 }
date_after (suc n) = next_day (date_after n)

-- Two decimal digits.
abbrev pub two_digits : ℕ → List ℕ
two_digits n = (48 + n / 10) ∷ (48 + n % 10) ∷ []

-- The text of a day and a time of day.
abbrev pub civil_text : Civil → List ℕ
civil_text c =
    two_digits (c.date.year / 100) ++ two_digits (c.date.year % 100) ++ codes "-" ++ two_digits c.date.month ++ codes "-" ++ two_digits c.date.day
    ++ codes "T" ++ two_digits c.hour ++ codes ":" ++ two_digits c.minute ++ codes ":" ++ two_digits c.second ++ codes "Z"

-- The day and the time of day that many seconds after 0001-01-01T00:00:00Z.
abbrev pub civil_after : ℕ → Civil
civil_after n = record {
  date = date_after (n / 86400);
  hour = n % 86400 / 3600;
  minute = n % 3600 / 60;
  second = n % 60;
}

-- A moment's text: that of the nearest moment of the years 0001 to 9999.
unfoldable pub second_text : ℤ → List ℕ
second_text z = civil_text (civil_after (unsigned_abs (nearest z -ℤ first_second)))

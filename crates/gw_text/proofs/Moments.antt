-- The text of a moment names the moment.
use Rattle.std.proofs.Common.{◌≡◌, ℕ, ◌+◌, ◌-◌, ◌*◌, ◌/◌, ◌%◌, ◌<◌, ◌≤◌, List, Bool, true, ◌&&◌, refl, ap, subst, ◌∙◌, arith, Some, ℤ, pos, ◌+ℤ◌, ◌-ℤ◌, unsigned_abs}
use Rattle.std.specs.Char.{is_ascii_digit}
use Rattle.std.specs.Int.{is_in_range, IsInRange}
use Rattle.std.proofs.lemmas.Bool.Decides.{nat_tests}
use Rattle.jiff_core.specs.Calendar.{days_in_month}
use Rattle.jiff_core.specs.Date.{epoch_day}
use Rattle.jiff_core.specs.Time.{time_seconds}
use Rattle.jiff_core.specs.declared.civil.date.Date.{Date as CivilDate}
use Rattle.jiff_core.specs.declared.civil.time.Time.{Time}
use Rattle.jiff_core.proofs.SignedLemmas.{signed_arith}
use Rattle.jiff_core.proofs.CalendarLemmas.{days_from_civil-day_count, days_in_month_bounds}
use Rattle.gw_text.specs.Civil.{civil}
use Rattle.gw_text.specs.model.Moments.{Date, Civil, is_date, is_clock, seconds_of, has_form, civil_of, second_of, first_second, nearest, date_after, civil_text, civil_after, second_text}
use Rattle.gw_text.proofs.Calendar.{IsDay, date_after_is, date_of-date_after}

-- What the calendar and the clock show is what the count of seconds gives.
pub civil-civil_after : (d : CivilDate) (t : Time) (n : ℕ) → n ≤ 315537897599 → epoch_day d +ℤ pos 4371587 ≡ pos (3652425 + n / 86400) → time_seconds t ≡ n % 86400 → civil d t ≡ civil_after n
civil-civil_after d t n h day time =
    let same = date_of-date_after d (n / 86400) (omega arith) day in
    let hour : t.hour ≡ n % 86400 / 3600 = omega (arith, t.minute_in, t.second_in) in
    let minute : t.minute ≡ n % 3600 / 60 = omega (arith, t.minute_in, t.second_in) in
    let second : t.second ≡ n % 60 = omega (arith, t.minute_in, t.second_in) in
    rw (same.0, hour, minute, second)

-- What a text spells has at most two digits each, and a year of four.
pub record IsShort (c : Civil) : Type 0 where
  pub year : c.date.year < 10000
  pub month : c.date.month < 100
  pub day : c.date.day < 100
  pub hour : c.hour < 100
  pub minute : c.minute < 100
  pub second : c.second < 100

in_range : (low high n : ℕ) → IsInRange low high n → is_in_range low high n ≡ true
in_range low high n h = grind (arith, nat_tests)

two_fit : (n : ℕ) (rest : Bool) → n < 100 → rest ≡ true → (is_ascii_digit (48 + n / 10) && (is_ascii_digit (48 + n % 10) && rest)) ≡ true
two_fit n rest h e =
    let tens : is_ascii_digit (48 + n / 10) ≡ true = grind (arith, nat_tests) in
    let ones : is_ascii_digit (48 + n % 10) ≡ true = grind (arith, nat_tests) in
    rw (tens, ones, e)

has_form-civil_text : (c : Civil) → IsShort c → has_form (civil_text c) ≡ true
has_form-civil_text c h =
    two_fit (c.date.year / 100) _ (omega (arith, h.year)) (two_fit (c.date.year % 100) _ (omega arith)
    (two_fit c.date.month _ h.month (two_fit c.date.day _ h.day (two_fit c.hour _ h.hour (two_fit c.minute _ h.minute (two_fit c.second _ h.second refl))))))

two_is : (n : ℕ) → 10 * (48 + n / 10 - 48) + (48 + n % 10 - 48) ≡ n
two_is n = omega arith

civil_of-civil_text : (c : Civil) → civil_of (civil_text c) ≡ c
civil_of-civil_text c =
    let year : 100 * (c.date.year / 100) + c.date.year % 100 ≡ c.date.year = omega arith in
    rw (two_is (c.date.year / 100), two_is (c.date.year % 100), two_is c.date.month, two_is c.date.day, two_is c.hour, two_is c.minute, two_is c.second, year)

second_of-form : (t : List ℕ) (c : Civil) → has_form t ≡ true → civil_of t ≡ c → is_date c.date ≡ true → is_clock c ≡ true → second_of t ≡ Some (seconds_of c)
unfolding second_of
second_of-form t c form spells date clock =
    subst (λ (c : Civil). is_date c.date ≡ true → is_clock c ≡ true → second_of t ≡ Some (seconds_of c)) spells (λ date clock. rw (form, date, clock)) date clock

is_date-from_IsDay : (d : Date) → IsDay d → d.year < 10000 → is_date d ≡ true
is_date-from_IsDay d h short =
    let year : is_in_range 1 9999 d.year ≡ true = grind (arith, nat_tests, h.year) in
    let month : is_in_range 1 12 d.month ≡ true = in_range _ _ _ h.civil.1 in
    let day : is_in_range 1 (days_in_month (pos d.year) d.month) d.day ≡ true = in_range _ _ _ h.civil.2 in
    rw (year, month, day)

seconds_of-civil_after : (n : ℕ) → n ≤ 315537897599 → seconds_of (civil_after n) ≡ first_second +ℤ pos n
seconds_of-civil_after n h =
    let day : Date = date_after (n / 86400) in
    let after = date_after_is (n / 86400) (omega arith) in
    omega (arith, signed_arith, after.counts, days_from_civil-day_count (pos day.year) day.month day.day)

second_of-civil_after : (n : ℕ) → n ≤ 315537897599 → second_of (civil_text (civil_after n)) ≡ Some (first_second +ℤ pos n)
second_of-civil_after n h =
    let day : Date = date_after (n / 86400) in
    let after = date_after_is (n / 86400) (omega arith) in
    let short : day.year < 10000 = omega (arith, signed_arith, after.is_day.civil.0) in
    let all : IsShort (civil_after n) = record {
      year = short;
      month = omega (arith, after.is_day.civil.1);
      day = omega (arith, after.is_day.civil.2, days_in_month_bounds (pos day.year) day.month);
      hour = omega arith;
      minute = omega arith;
      second = omega arith;
    } in
    second_of-form _ _ (has_form-civil_text (civil_after n) all) (civil_of-civil_text (civil_after n)) (is_date-from_IsDay day after.is_day short) (grind (arith, nat_tests)) ∙ ap Some (seconds_of-civil_after n h)

nearest_is : (z : ℤ) → (first_second +ℤ pos (unsigned_abs (nearest z -ℤ first_second)) ≡ nearest z) × (unsigned_abs (nearest z -ℤ first_second) ≤ 315537897599)
nearest_is z = grind (arith, signed_arith)

pub second_of-second_text : (z : ℤ) → second_of (second_text z) ≡ Some (nearest z)
unfolding second_text
second_of-second_text z = second_of-civil_after _ (nearest_is z).1 ∙ ap Some (nearest_is z).0

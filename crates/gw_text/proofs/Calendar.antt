-- Days counted one by one from 0001-01-01 are the days of the calendar's day numbers.
use Rattle.std.proofs.Common.{◌≡◌, ℕ, zero, suc, ◌+◌, ◌<◌, ◌≤◌, true, false, nat_lt, refl, arith, pos, ◌+ℤ◌, ◌≤ℤ◌, inl, inr}
use Rattle.std.proofs.lemmas.Bool.{cases_lt}
use Rattle.jiff_core.specs.Calendar.{days_in_month, day_count, IsCivilDate}
use Rattle.jiff_core.specs.Date.{epoch_day}
use Rattle.jiff_core.specs.declared.civil.date.Date.{Date as CivilDate}
use Rattle.jiff_core.proofs.SignedLemmas.{signed_arith}
use Rattle.jiff_core.proofs.MarchLemmas.{day_count-early}
use Rattle.jiff_core.proofs.CalendarLemmas.{days_from_civil-day_count, day_count-day, day_count-next_month, day_count-next_year, day_count-last_of_year, day_count-end, days_in_month_bounds}
use Rattle.jiff_core.proofs.DateLemmas.{epoch_day_injective}
use Rattle.gw_text.specs.Civil.{date_of}
use Rattle.gw_text.specs.model.Moments.{Date, next_day, date_after}
use borrow.Author.Tests.{ltb-true, ltb-false}

abbrev pub count : Date → ℕ
count d = day_count (pos d.year) d.month d.day

-- The calendar has the day, and it isn't before the year 0001.
pub record IsDay (d : Date) : Type 0 where
  pub civil : IsCivilDate (pos d.year) d.month d.day
  pub year : 1 ≤ d.year

pub record Follows (d next : Date) : Type 0 where
  pub is_day : IsDay next
  pub one_more : count next ≡ count d + 1

within_month : (d : Date) → IsDay d → d.day < days_in_month (pos d.year) d.month → Follows d (record { year = d.year; month = d.month; day = d.day + 1 })
within_month d h lt = record {
  is_day = record { civil = (h.civil.0, h.civil.1, (omega arith, omega arith)); year = h.year };
  one_more = omega (arith, day_count-day (pos d.year) d.month d.day (d.day + 1) h.civil.2.0 (omega arith));
}

next_month : (d : Date) → IsDay d → days_in_month (pos d.year) d.month ≤ d.day → d.month < 12 → Follows d (record { year = d.year; month = d.month + 1; day = 1 })
next_month d h last lt = record {
  is_day = record { civil = (h.civil.0, (omega arith, omega arith), (omega arith, omega (arith, days_in_month_bounds (pos d.year) (d.month + 1)))); year = h.year };
  one_more = omega (arith, h.civil.2.1, day_count-next_month (pos d.year) d.month h.civil.1.0, day_count-day (pos d.year) d.month 1 d.day (omega arith) h.civil.2.0);
}

-- 31 December ends the year, and the year 9999 is the last.
december_31 : (y m d : ℕ) → IsCivilDate (pos y) m d → 12 ≤ m → days_in_month (pos y) m ≤ d → (m ≡ 12) × (d ≡ 31)
december_31 y m d h december last =
    let twelve : m ≡ 12 = omega (arith, h.1.1) in
    (twelve, omega (arith, h.2.1, rw twelve at h.2.1, rw twelve at last))

next_year : (d : Date) → IsDay d → days_in_month (pos d.year) d.month ≤ d.day → 12 ≤ d.month → count d < 7304849 → Follows d (record { year = d.year + 1; month = 1; day = 1 })
next_year d h last december before =
    let end = december_31 d.year d.month d.day h.civil december last in
    let here : count d ≡ day_count (pos d.year) 12 31 = rw (end.0, end.1) in
    let there : day_count (pos (d.year + 1)) 1 1 ≡ count d + 1 =
    omega (arith, day_count-next_year (pos d.year) (pos (d.year + 1)) (omega (arith, signed_arith)) (omega (arith, signed_arith)), day_count-last_of_year (pos d.year)) in
    let room : d.year < 9999 =
    elim (cases_lt d.year 9999) [
      | inl lt ↦ lt
      | inr ge ↦ let top : d.year + 1 ≡ 10000 = omega (arith, signed_arith, h.civil.0) in
          absurd (omega (arith, day_count-end, rw top at there))
    ] in
    record {
      is_day = record { civil = ((omega (arith, signed_arith), omega (arith, signed_arith)), (omega arith, omega arith), (omega arith, omega arith)); year = omega arith };
      one_more = there;
    }

next_day_follows : (d : Date) → IsDay d → count d < 7304849 → Follows d (next_day d)
next_day_follows d h before =
    elim (nat_lt d.day (days_in_month (pos d.year) d.month)) as (λ b. nat_lt d.day (days_in_month (pos d.year) d.month) ≡ b → Follows d (next_day d)) [
      | true ↦ λ e. rw e (within_month d h (ltb-true _ _ e))
      | false ↦ λ e. elim (nat_lt d.month 12) as (λ b. nat_lt d.month 12 ≡ b → Follows d (next_day d)) [
        | true ↦ λ k. rw (e, k) (next_month d h (ltb-false _ _ e) (ltb-true _ _ k))
        | false ↦ λ k. rw (e, k) (next_year d h (ltb-false _ _ e) (ltb-false _ _ k) before)
      ] refl
    ] refl

-- The day number of each day that is counted so.
pub record IsAfter (n : ℕ) (d : Date) : Type 0 where
  pub is_day : IsDay d
  pub counts : count d ≡ 3652791 + n

day_count-first : day_count (pos 1) 1 1 ≡ 3652791
day_count-first = day_count-early (pos 1) 10000 1 1 refl (omega arith) (omega arith) (omega arith)

pub date_after_is : (n : ℕ) → n ≤ 3652058 → IsAfter n (date_after n)
unfolding date_after
date_after_is zero h = record {
  is_day = record { civil = ((omega (arith, signed_arith), omega (arith, signed_arith)), (omega arith, omega arith), (omega arith, omega arith)); year = omega arith };
  counts = omega (arith, day_count-first);
}
date_after_is (suc n) h =
    let before = date_after_is n (omega arith) in
    let next = next_day_follows (date_after n) before.is_day (omega (arith, before.counts)) in
    record { is_day = next.is_day; counts = omega (arith, next.one_more, before.counts) }

-- A date of the calendar is the day that its day number says.
pub date_of-date_after : (d : CivilDate) (n : ℕ) → n ≤ 3652058 → epoch_day d +ℤ pos 4371587 ≡ pos (3652425 + n) → (date_of d ≡ date_after n) × (pos 0 ≤ℤ d.year)
date_of-date_after d n h e =
    let after = date_after_is n h in
    let day : Date = date_after n in
    let there : CivilDate = record { year = pos day.year; month = day.month; day = day.day; year_in = after.is_day.civil.0; month_in = after.is_day.civil.1; day_in = after.is_day.civil.2 } in
    let same_day : epoch_day d ≡ epoch_day there = omega (arith, signed_arith, after.counts, days_from_civil-day_count (pos day.year) day.month day.day) in
    let same = epoch_day_injective d there same_day in
    (rw (same.0, same.1, same.2), rw same.0 (omega (arith, signed_arith)))

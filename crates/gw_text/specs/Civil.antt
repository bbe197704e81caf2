-- The calendar's values as the definitions of moments see them.
use Rattle.std.specs.Prelude.{unsigned_abs}
use Rattle.jiff_core.specs.declared.civil.date.Date.{Date}
use Rattle.jiff_core.specs.declared.civil.time.Time.{Time}
use Rattle.gw_text.specs.model.Moments as moments

-- A day.
abbrev pub date_of : Date → moments.Date
date_of d = record { year = unsigned_abs d.year; month = d.month; day = d.day }

-- A day, and a time of day.
abbrev pub civil : Date → Time → moments.Civil
civil d t = record { date = date_of d; hour = t.hour; minute = t.minute; second = t.second }

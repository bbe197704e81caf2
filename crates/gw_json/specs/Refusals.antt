-- What a refusal is printed as.
use Rattle.std.specs.Prelude.{ℕ, List, Option, Some, None}
use Rattle.gw_json.specs.declared.refusal.Refusal.{Refusal}
use Rattle.gw_json.specs.declared.refusal.Refusal.TheVariants.{NotJson, NotEvent, Missing, WrongType, BadValue, TooLong, Full, NoMemory}

-- Each kind of refusal has its number. Want of memory is none, and has 0.
abbrev pub refusal_number : Refusal → ℕ
refusal_number NotJson = 1
refusal_number NotEvent = 2
refusal_number (Missing path) = 3
refusal_number (WrongType path) = 4
refusal_number (BadValue path) = 5
refusal_number (TooLong path) = 6
refusal_number Full = 7
refusal_number NoMemory = 0

-- Refusals 3 to 6 name a field.
abbrev pub refusal_path : Refusal → Option (List ℕ)
refusal_path (Missing path) = Some path
refusal_path (WrongType path) = Some path
refusal_path (BadValue path) = Some path
refusal_path (TooLong path) = Some path
refusal_path NotJson = None
refusal_path NotEvent = None
refusal_path Full = None
refusal_path NoMemory = None

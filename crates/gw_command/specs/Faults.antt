-- The faults by which the program ends: with which exit code, and which cause it writes.
use Rattle.std.specs.Prelude.{◌≡◌, ℕ, ◌⊎◌, List, [], ◌++◌, codes, Option, Some, None}
use Rattle.gw_command.specs.declared.fault.Fault.{Fault}
use Rattle.gw_command.specs.declared.fault.Fault.TheVariants.{Usage, ReadFailed, WriteFailed, TooManyDoors, TwoAddresses, DoorTwice, NotBound, NotStarted, NoPlace, NoMemory, TooLong}

-- An exit code, and the cause that is written, if one is.
pub record Ending : Type 0 where
  pub exit_code : ℕ
  pub cause : Option (List ℕ)

-- An ending that writes its cause.
abbrev pub written : ℕ → List ℕ → Ending
written code cause = record { exit_code = code; cause = Some cause }

-- An ending that writes no cause.
abbrev pub unwritten : ℕ → Ending
unwritten code = record { exit_code = code; cause = None }

-- The table of all faults. Without one the exit code is 0, or 1 where a line was refused.
abbrev pub ending_of : Fault → Ending
ending_of Usage = written 2 (codes "usage")
ending_of ReadFailed = written 3 (codes "read")
ending_of WriteFailed = unwritten 4
ending_of TooManyDoors = written 5 (codes "TooManyDoors")
ending_of TwoAddresses = written 5 (codes "TwoAddresses")
ending_of DoorTwice = written 5 (codes "DoorTwice")
ending_of NotBound = written 5 (codes "bind")
ending_of NotStarted = written 5 (codes "start")
ending_of NoPlace = written 5 (codes "Place")
ending_of NoMemory = unwritten 6
ending_of TooLong = written 7 (codes "size")

-- The line that names a cause; without one nothing is written.
abbrev pub cause_line : Option (List ℕ) → List ℕ
cause_line None = []
cause_line (Some cause) = codes "{\"fault\":\"" ++ cause ++ codes "\"}\n"

-- The exit code of a fault.
abbrev pub exit_code : Fault → ℕ
exit_code fault = (ending_of fault).exit_code

-- What is written of a fault.
abbrev pub fault_line : Fault → List ℕ
fault_line fault = cause_line (ending_of fault).cause

-- An exit code of words that are no command's, or of doors that break a rule.
abbrev pub IsExitAtStart : ℕ → Type 0
IsExitAtStart code = (code ≡ exit_code Usage) ⊎ (code ≡ exit_code TooManyDoors)

-- The lines of a script. Each has one of these forms, with one space between each two of its parts:
--   event EVENT
--   publish
--   open NAME WORKER DOOR
--   send NAME TEXT
--   end NAME
--   answer SOCKET TEXT
--   answer SOCKET TEXT FILL
--   fail SOCKET open, send or receive
use Rattle.std.specs.Prelude.{ℕ, List, length, take, drop, codes, Bool, ◌==◌, bytes_eq, nat_lt, if◌then◌else◌, Option, None, Some, Result, Ok, Err}
use Rattle.std.specs.Str.{is_utf8}
use Rattle.gw_text.specs.model.Addresses.{socket_of}
use Rattle.gw_text.specs.model.Chains.{◌>>=◌}
use Rattle.gw_json.specs.Lines.{max_line}
use Rattle.gw_requests.specs.Numbers.{number_below}
use Rattle.gw_script.specs.Parts.{first_part, other_parts, last_part, before_last, name_of, is_quoted, text_of, call_of}
use Rattle.gw_script.specs.Steps.{Step, an_event, a_publication, a_beginning, a_sending, an_end, an_answer, a_failure}
use Rattle.gw_script.specs.declared.refusal.StepRefusal.{StepRefusal}
use Rattle.gw_script.specs.declared.refusal.StepRefusal.TheVariants.{NotStep, TooLong}

-- NAME WORKER DOOR, where a worker and a door of these numbers, from 0, are there.
unfoldable pub open_of : ℕ → ℕ → List ℕ → Option Step
open_of workers doors parts = do
  name ← name_of (first_part parts)
  worker ← number_below workers (first_part (other_parts parts))
  door ← number_below doors (other_parts (other_parts parts))
  Some (a_beginning name worker door)

-- NAME TEXT, where the text isn't empty.
unfoldable pub send_of : List ℕ → Option Step
send_of parts = do
  name ← name_of (first_part parts)
  bytes ← text_of (other_parts parts)
  if length bytes == 0 then None else Some (a_sending name bytes)

-- NAME.
unfoldable pub end_of : List ℕ → Option Step
end_of parts = do
  name ← name_of parts
  Some (an_end name)

-- TEXT, or TEXT FILL, where the fill is at most 16,777,216; it is 0 where it isn't given.
unfoldable pub answer_text_of : List ℕ → Option (List ℕ × ℕ)
answer_text_of parts =
    if is_quoted parts then (text_of parts >>= λ text. Some (text, 0))
    else (number_below 16777217 (last_part parts) >>= λ fill. text_of (before_last parts) >>= λ text. Some (text, fill))

-- SOCKET TEXT, or SOCKET TEXT FILL.
unfoldable pub answer_of : List ℕ → Option Step
answer_of parts = do
  socket ← socket_of (first_part parts)
  text ← answer_text_of (other_parts parts)
  Some (an_answer socket text.0 text.1)

-- SOCKET, and the call that is to fail.
unfoldable pub fail_of : List ℕ → Option Step
fail_of parts = do
  socket ← socket_of (first_part parts)
  call ← call_of (other_parts parts)
  Some (a_failure socket call)

-- The forms but for that of an event.
unfoldable pub form_of : ℕ → ℕ → List ℕ → Option Step
form_of workers doors line =
    let command = first_part line in
    let parts = other_parts line in
    if bytes_eq command (codes "open") then open_of workers doors parts
    else (if bytes_eq command (codes "send") then send_of parts
    else (if bytes_eq command (codes "end") then end_of parts
    else (if bytes_eq command (codes "answer") then answer_of parts
    else (if bytes_eq command (codes "fail") then fail_of parts
    else (if bytes_eq line (codes "publish") then Some a_publication
    else None)))))

-- A line of an event. How long the event may be is said where events are read.
abbrev pub is_event : List ℕ → Bool
is_event line = bytes_eq (take 6 line) (codes "event ")

-- The step, or else NotStep.
abbrev pub or_not : Option Step → Result Step StepRefusal
or_not (Some step) = Ok step
or_not None = Err NotStep

-- The step that a line says, or why it says none.
unfoldable pub step_of : ℕ → ℕ → List ℕ → Result Step StepRefusal
step_of workers doors line =
    if is_event line then Ok (an_event (drop 6 line))
    else (if nat_lt max_line (length line) then Err TooLong
    else or_not (if is_utf8 line then form_of workers doors line else None))

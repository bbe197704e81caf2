-- What the forms in memory that are polled are, and what each of their polls does.
use Rattle.std.specs.Prelude.{ℕ, ◌==◌, ◌&&◌, ◌||◌, Bool, true, false, not, if◌then◌else◌, nat_lt, List, [], ◌∷◌, ◌++◌, length, take, drop}
use Rattle.std.specs.List.{filter, list_any}
use Rattle.gw_text.specs.model.Addresses.{Socket}
use Rattle.gw_link.specs.Faults.{one_more}
use Rattle.gw_link.specs.Memory.{Calls, SinkState, is_failing, after_pass, after_fail, after_write}
use Rattle.gw_link.specs.Upstreams.{UpstreamState, after_connect, after_send, after_receive, after_close}

-- The calls before each of which it isn't ready once, the number of the next call, and how many polls weren't ready.
-- A poll that isn't ready makes no call.
pub record Readiness : Type 0 where
  pub marks : List ℕ
  pub next : ℕ
  pub waits : ℕ

-- Before the first call, whose number is 0.
abbrev pub first_poll : List ℕ → Readiness
first_poll marks = record { marks = marks; next = 0; waits = 0 }

-- There is a mark before the next call.
abbrev pub is_marked : Readiness → Bool
is_marked ready = list_any (λ number. number == ready.next) ready.marks

-- There is a mark.
abbrev pub has_mark : Readiness → Bool
has_mark ready = list_any (λ number. true) ready.marks

-- After a poll that met the mark before the next call, which is gone.
abbrev pub after_mark : Readiness → Readiness
after_mark ready = record ready {
  marks = filter (λ number. not (number == ready.next)) ready.marks;
  waits = one_more ready.waits;
}

-- After a poll for which there was nothing to be read.
abbrev pub after_wait : Readiness → Readiness
after_wait ready = record ready { waits = one_more ready.waits }

-- After a call, whether it failed or not.
abbrev pub after_call : Readiness → Readiness
after_call ready = record ready { next = one_more ready.next }

-- A link in memory that is polled.
pub record PollLinkState : Type 0 where
  -- the pieces to come, none of which is empty, and whether the end stands behind them
  pub pieces : List (List ℕ)
  pub has_end : Bool
  -- the reads that fail, and those before which it isn't ready
  pub reads : Calls
  pub read_marks : Readiness
  -- where it is written to, and the writes before which it isn't ready
  pub sink : SinkState
  pub write_marks : Readiness
  -- the name of the source at which a read registers, and whether a task is to be woken by the next piece
  pub source : ℕ
  pub is_awaited : Bool

-- What a read into a buffer of this size gives: of the first piece as much as there is room for.
abbrev pub read_piece : ℕ → List (List ℕ) → List ℕ
read_piece size [] = []
read_piece size (piece ∷ pieces) = take size piece

-- What is left behind that.
abbrev pub left_behind : ℕ → List (List ℕ) → List (List ℕ)
left_behind size [] = []
left_behind size (piece ∷ pieces) = if nat_lt size (length piece) then drop size piece ∷ pieces else pieces

-- Nothing is left, the end neither.
abbrev pub is_used_up : PollLinkState → Bool
is_used_up link = length link.pieces == 0 && not link.has_end

-- A poll of a read isn't ready: there is a mark, or the read doesn't fail and there is nothing for it.
abbrev pub waits_to_read : PollLinkState → Bool
waits_to_read link = is_marked link.read_marks || (not (is_failing link.reads) && is_used_up link)

-- A poll of a read fails: it is ready for one that is listed.
abbrev pub fails_to_read : PollLinkState → Bool
fails_to_read link = not (is_marked link.read_marks) && is_failing link.reads

-- A mark is to come, for reads or for writes.
abbrev pub has_marks : PollLinkState → Bool
has_marks link = has_mark link.read_marks || has_mark link.write_marks

-- After a poll of a read into a buffer of this size.
abbrev pub after_poll_read : ℕ → PollLinkState → PollLinkState
after_poll_read size link =
    if is_marked link.read_marks then record link { read_marks = after_mark link.read_marks }
    else (if is_failing link.reads then record link { reads = after_fail link.reads; read_marks = after_call link.read_marks }
    else (if is_used_up link then record link { read_marks = after_wait link.read_marks }
    else record link { pieces = left_behind size link.pieces; reads = after_pass link.reads; read_marks = after_call link.read_marks }))

-- After a poll of a write of this piece, whatever memory it left.
abbrev pub after_poll_write : List ℕ → Bool → ℕ → PollLinkState → PollLinkState
after_poll_write piece is_taken room link =
    if is_marked link.write_marks then record link { write_marks = after_mark link.write_marks }
    else record link { sink = record (after_write piece is_taken link.sink) { room = room }; write_marks = after_call link.write_marks }

-- After a piece was added; the empty one is the end. Nothing comes behind the end. A task that waited was woken.
abbrev pub after_push : List ℕ → PollLinkState → PollLinkState
after_push piece link =
    if link.has_end then link
    else (if length piece == 0 then record link { has_end = true; is_awaited = false }
    else record link { pieces = link.pieces ++ piece ∷ []; is_awaited = false })

-- An upstream in memory that is polled: one in memory, and the calls before which it isn't ready.
pub record PollUpstreamState : Type 0 where
  pub up : UpstreamState
  pub marks : Readiness

-- After a poll: where there is a mark, it is gone, and else the call was made.
abbrev pub after_poll : UpstreamState → UpstreamState → PollUpstreamState → PollUpstreamState
after_poll waiting called polled =
    if is_marked polled.marks then record { up = waiting; marks = after_mark polled.marks }
    else record { up = called; marks = after_call polled.marks }

-- After a poll of `connect`. One that isn't ready has closed the connection that there was.
abbrev pub after_poll_connect : Socket → Bool → PollUpstreamState → PollUpstreamState
after_poll_connect to is_done polled = after_poll (after_close polled.up) (after_connect to is_done polled.up) polled

-- After a poll of `send`.
abbrev pub after_poll_send : List ℕ → Bool → PollUpstreamState → PollUpstreamState
after_poll_send piece is_done polled = after_poll polled.up (after_send piece is_done polled.up) polled

-- After a poll of `receive`.
abbrev pub after_poll_receive : ℕ → Bool → PollUpstreamState → PollUpstreamState
after_poll_receive size is_done polled = after_poll polled.up (after_receive size is_done polled.up) polled

-- What a ring in memory is, and what each of its calls does.
use Rattle.std.specs.Prelude.{ℕ, ◌+◌, ◌-◌, ◌==◌, ◌&&◌, ◌||◌, Bool, if◌then◌else◌, nat_lt, List, [], ◌∷◌, ◌++◌, length}
use Rattle.gw_link.specs.Faults.{last_count}
use Rattle.gw_link.specs.Memory.{Calls, is_failing, after_pass, after_fail}
use Rattle.gw_edge.specs.EdgeMemory.{EdgeState}
use Rattle.gw_polling.specs.PollMemory.{PollLinkState, PollUpstreamState}
use Rattle.gw_polling.specs.Rings.{is_among, without}

-- A connection in memory: its link, and the upstream that it has.
pub record ConnState : Type 0 where
  pub link : PollLinkState
  pub up : PollUpstreamState

-- A ring in memory.
pub record RingState : Type 0 where
  -- the connections to come, the numbers of those that are open, and the connections that were closed
  pub coming : List ConnState
  pub open_numbers : List ℕ
  pub closed : List ConnState
  -- how many came, which is the number of the next one
  pub next : ℕ
  -- for how many more closed connections it has memory
  pub room : ℕ
  pub calls : Calls

-- A wait fails: it is listed, or a connection is to come and the numbers have run out.
abbrev pub fails_to_wait : RingState → Bool
fails_to_wait ring = is_failing ring.calls || (nat_lt 0 (length ring.coming) && ring.next == last_count)

-- After a wait that gives the first connection to come, or, where none is, names the open ones.
abbrev pub after_giving : List ConnState → RingState → RingState
after_giving [] ring = record ring { calls = after_pass ring.calls }
after_giving (conn ∷ conns) ring = record ring {
  coming = conns;
  open_numbers = ring.open_numbers ++ ring.next ∷ [];
  next = ring.next + 1;
  calls = after_pass ring.calls;
}

-- After a wait.
abbrev pub after_wait_of : RingState → RingState
after_wait_of ring =
    if fails_to_wait ring then record ring { calls = after_fail ring.calls }
    else after_giving ring.coming ring

-- After `close`. A number that isn't open closes nothing.
abbrev pub after_close_of : ℕ → ConnState → RingState → RingState
after_close_of number conn ring =
    if is_among number ring.open_numbers then record ring {
      open_numbers = without number ring.open_numbers;
      closed = ring.closed ++ conn ∷ [];
      room = ring.room - 1;
    }
    else ring

-- An edge in memory that gives rings too: one in memory, and its calls that give rings.
pub record PollEdgeState : Type 0 where
  pub edge : EdgeState
  pub calls : Calls

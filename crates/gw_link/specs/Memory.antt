-- What the forms in memory are, and what each of their calls does.
use Rattle.std.specs.Prelude.{ℕ, ℤ, ◌+◌, ◌-◌, ◌==◌, Bool, nat_lt, if◌then◌else◌, min, List, ◌++◌, length, take, drop, fold, slice_index_or}
use Rattle.std.specs.List.{list_any}
use Rattle.gw_link.specs.Faults.{one_more}

-- The numbers of the calls that fail, the number of the next call, and how many have failed.
pub record Calls : Type 0 where
  pub fails : List ℕ
  pub next : ℕ
  pub faults : ℕ

-- Before the first call, whose number is 0.
abbrev pub first_call : List ℕ → Calls
first_call fails = record { fails = fails; next = 0; faults = 0 }

-- The next call is listed.
abbrev pub is_failing : Calls → Bool
is_failing calls = list_any (λ number. number == calls.next) calls.fails

-- After a call that did what it is for.
abbrev pub after_pass : Calls → Calls
after_pass calls = record calls { next = one_more calls.next }

-- After a call that failed.
abbrev pub after_fail : Calls → Calls
after_fail calls = record calls { next = one_more calls.next; faults = one_more calls.faults }

-- A source in memory.
pub record SourceState : Type 0 where
  -- the bytes left, and how many were given
  pub left : List ℕ
  pub given : ℕ
  -- the most that one read gives, which is not 0
  pub most : ℕ
  pub calls : Calls

-- How many bytes a read into a buffer of this size gives: the least of three.
abbrev pub read_size : ℕ → SourceState → ℕ
read_size size source = min size (min source.most (length source.left))

-- After a read into a buffer of this size: failed where it is listed, and else the bytes are given.
abbrev pub after_read : ℕ → SourceState → SourceState
after_read size source =
    if is_failing source.calls then record source { calls = after_fail source.calls }
    else record source {
      left = drop (read_size size source) source.left;
      given = source.given + read_size size source;
      calls = after_pass source.calls;
    }

-- A sink in memory.
pub record SinkState : Type 0 where
  -- the bytes written, and for how many more it has memory
  pub written : List ℕ
  pub room : ℕ
  -- the most that one write takes, which is not 0
  pub most : ℕ
  -- how many writes failed for want of memory
  pub starved : ℕ
  pub calls : Calls

-- How many bytes of a piece a write takes: the lesser of two.
abbrev pub write_size : List ℕ → SinkState → ℕ
write_size piece sink = min (length piece) sink.most

-- After a write that takes the front of the piece.
abbrev pub after_taking : List ℕ → SinkState → SinkState
after_taking piece sink = record sink {
  written = sink.written ++ take (write_size piece sink) piece;
  calls = after_pass sink.calls;
}

-- After a write that is refused the memory.
abbrev pub after_starving : SinkState → SinkState
after_starving sink = record sink { starved = one_more sink.starved; calls = after_fail sink.calls }

-- After a write, whatever memory it left: failed where it is listed, and else taken where it answered Ok.
abbrev pub after_write : List ℕ → Bool → SinkState → SinkState
after_write piece is_taken sink =
    if is_failing sink.calls then record sink { calls = after_fail sink.calls }
    else (if is_taken then after_taking piece sink else after_starving sink)

-- A connection in memory: what is read from it, what is written to it, and the places between the pieces in which its bytes
-- come, counted from the first byte.
pub record LinkState : Type 0 where
  pub source : SourceState
  pub sink : SinkState
  pub cuts : List ℕ

-- Of so many bytes behind so many others those before the place, where it is ahead.
abbrev pub up_to_cut : ℕ → ℕ → ℕ → ℕ
up_to_cut given size cut = if nat_lt given cut then min size (cut - given) else size

-- Of so many bytes those of one piece.
abbrev pub in_one_piece : LinkState → ℕ → ℕ
in_one_piece link size = fold (up_to_cut link.source.given) size link.cuts

-- The moments to come, and the one that was given last: 0 before the first.
pub record ClockState : Type 0 where
  pub left : List ℤ
  pub last : ℤ

-- What the clock gives next: the first moment to come, or the last one again.
abbrev pub next_moment : ClockState → ℤ
next_moment clock = slice_index_or clock.left 0 clock.last

-- After a call.
abbrev pub after_now : ClockState → ClockState
after_now clock = record { left = drop 1 clock.left; last = next_moment clock }

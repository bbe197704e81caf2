-- What the forms in memory are, and what each of their calls does.
use Rattle.std.specs.Prelude.{ℕ, ◌-◌, Bool, if◌then◌else◌, List, [], ◌∷◌, ◌++◌, drop, Some}
use Rattle.gw_link.specs.Faults.{one_more}
use Rattle.gw_link.specs.Memory.{Calls, LinkState, is_failing, after_pass, after_fail}
use Rattle.gw_link.specs.Upstreams.{UpstreamState}
use Rattle.gw_edge.specs.Accepting.{Told}

-- An acceptor in memory.
pub record AcceptorState : Type 0 where
  -- the links to come, and those that were closed
  pub coming : List LinkState
  pub closed : List LinkState
  -- for how many more closed links it has memory
  pub room : ℕ
  -- how many calls failed for want of memory
  pub starved : ℕ
  pub calls : Calls

-- What a link in memory tells.
abbrev pub told : LinkState → Told
told link = record { left = Some link.source.left; written = Some link.sink.written }

-- After `accept`: failed where it is listed or was refused the memory, and else the first link to come is given.
abbrev pub after_accept : Bool → AcceptorState → AcceptorState
after_accept is_given acceptor =
    if is_failing acceptor.calls then record acceptor { calls = after_fail acceptor.calls }
    else (if is_given then record acceptor { coming = drop 1 acceptor.coming; calls = after_pass acceptor.calls }
    else record acceptor { starved = one_more acceptor.starved; calls = after_fail acceptor.calls })

-- After `close`.
abbrev pub after_closing : LinkState → AcceptorState → AcceptorState
after_closing link acceptor = record acceptor { closed = acceptor.closed ++ link ∷ []; room = acceptor.room - 1 }

-- An edge in memory: the upstreams that it gives in turn, and its calls.
pub record EdgeState : Type 0 where
  pub upstreams : List UpstreamState
  pub calls : Calls

-- A crew in memory, which has run each job that it started.
pub record CrewState : Type 0 where
  pub started : ℕ
  pub calls : Calls

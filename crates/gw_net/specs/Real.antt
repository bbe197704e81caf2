-- What is known of the objects of the real outside: which of their calls have failed, and of sockets no content.
use Rattle.std.specs.Prelude.{ℕ, List, Option, Some, None, Result, Ok, Err}
use Rattle.futures.specs.declared.task.Poll.{Poll}
use Rattle.futures.specs.declared.task.Poll.TheVariants.{Ready, Pending}
use Rattle.gw_text.specs.model.Addresses.{Socket}
use Rattle.gw_link.specs.Faults.{one_more}
use Rattle.gw_edge.specs.declared.edge.EdgeFault.{EdgeFault}
use Rattle.gw_edge.specs.declared.edge.EdgeFault.TheVariants.{Failed, NoMemory}

-- The count of faults after a call that answered so: one more where it failed, and else as before.
abbrev pub after_call : {T E : Type 0} → Result T E → ℕ → ℕ
after_call (Ok answer) faults = faults
after_call (Err fault) faults = one_more faults

-- The same of a call that may want memory, which is no fault.
abbrev pub after_edge_call : {T : Type 0} → Result T EdgeFault → ℕ → ℕ
after_edge_call (Ok answer) faults = faults
after_edge_call (Err Failed) faults = one_more faults
after_edge_call (Err NoMemory) faults = faults

-- The count of faults after a poll that answered so: one more where the call failed, and else as before.
abbrev pub after_poll : {T E : Type 0} → Poll (Result T E) → ℕ → ℕ
after_poll (Ready (Ok answer)) faults = faults
after_poll (Ready (Err fault)) faults = one_more faults
after_poll Pending faults = faults

-- The count of waits after a poll that answered so: one more where the object wasn't ready, and else as before.
abbrev pub after_wait : {A : Type 0} → Poll A → ℕ → ℕ
after_wait (Ready answer) waits = waits
after_wait Pending waits = one_more waits

-- A source over a reader.
pub record SourceState : Type 0 where
  -- what the reader tells to be left, and how many bytes it gave
  pub left : Option (List ℕ)
  pub given : ℕ
  pub faults : ℕ

-- A sink over a writer.
pub record SinkState : Type 0 where
  -- what the writer tells to be written
  pub written : Option (List ℕ)
  pub faults : ℕ

-- A link, an acceptor and an edge over sockets.
pub record SocketState : Type 0 where
  pub faults : ℕ

-- An upstream over sockets.
pub record UpstreamState : Type 0 where
  -- where it is connected
  pub at : Option Socket
  pub faults : ℕ

-- After `connect`. One that failed leaves no connection.
abbrev pub after_connect : {T E : Type 0} → Socket → Result T E → UpstreamState → UpstreamState
after_connect to (Ok answer) up = record { at = Some to; faults = up.faults }
after_connect to (Err fault) up = record { at = None; faults = one_more up.faults }

-- A crew in threads.
pub record CrewState : Type 0 where
  -- how many jobs were started, and for how many of these it hasn't waited
  pub started : ℕ
  pub running : ℕ
  -- for how many more threads it has memory
  pub room : ℕ
  pub faults : ℕ

-- A link over a socket that doesn't wait.
pub record PolledLinkState : Type 0 where
  pub faults : ℕ
  pub read_waits : ℕ
  pub write_waits : ℕ

-- An upstream over sockets that don't wait.
pub record PolledUpstreamState : Type 0 where
  -- where it is connected
  pub at : Option Socket
  pub faults : ℕ
  pub waits : ℕ

-- After `poll_connect`. One that failed, or isn't ready, leaves no connection.
abbrev pub after_poll_connect : {T E : Type 0} → Socket → Poll (Result T E) → PolledUpstreamState → PolledUpstreamState
after_poll_connect to (Ready (Ok answer)) up = record up { at = Some to }
after_poll_connect to (Ready (Err fault)) up = record up { at = None; faults = one_more up.faults }
after_poll_connect to Pending up = record up { at = None; waits = one_more up.waits }

-- A ring over a listening socket: the numbers of its open connections, the next number, and how many calls have failed.
pub record RingState : Type 0 where
  pub open_numbers : List ℕ
  pub next : ℕ
  pub faults : ℕ

use Rattle.std.proofs.Common.{◌≡◌, ◌≤◌, ◌+◌, ◌-◌, Bool, List, ℕ, length}
use Rattle.futures.specs.Task.{Keeps as KeepsTask}
use Rattle.gw_exchange.specs.declared.backend.TheConstants.{MOST_GIVEN}
use Rattle.gw_poll_exchange.specs.Polled.{Reads}
use Rattle.gw_poll_exchange.specs.Stays.{UpstreamStays}
use Rattle.gw_poll_exchange.proofs.Reading.{IsReading}
use Rattle.gw_poll_exchange.proofs.polled.receive.Given as goal

abbrev pub invariant-pieces : goal.invariant-pieces
invariant-pieces g l = record {
  so_far : (head : Bool) (given : List ℕ) → Reads l.fn.reader head given
      → IsReading l.reader head given l.given (g.U.PollUpstream.exchanges l.fn.up) (g.U.PollUpstream.exchanges l.up);
  few : l.given ≤ MOST_GIVEN;
  size : length l.buffer ≡ length l.fn.buffer;
  at : g.U.PollUpstream.at l.up ≡ g.U.PollUpstream.at l.fn.up;
  up : UpstreamStays g.U.PollUpstream l.fn.up l.up;
  task : KeepsTask l.fn.cx l.cx;
}

abbrev pub decreases-pieces : goal.decreases-pieces
decreases-pieces g l = MOST_GIVEN + 1 - l.given

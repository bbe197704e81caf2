use Rattle.std.proofs.Common.{◌≡◌, ◌≤◌, ◌-◌, drop, length, take}
use Rattle.futures.specs.Task.{Keeps as KeepsTask}
use Rattle.gw_link.specs.Exchanges.{Sends}
use Rattle.gw_polling.specs.Polls.{NoneCame}
use Rattle.gw_polling.proofs.poll_upstream.send_on.Given as goal

abbrev pub invariant-pieces : goal.invariant-pieces
invariant-pieces g l = record {
  later : l.fn.sent ≤ l.sent;
  within : l.sent ≤ length l.piece;
  taken : Sends (g.U.PollUpstream.exchanges l.fn.up) (take (l.sent - l.fn.sent) (drop l.fn.sent l.piece)) (g.U.PollUpstream.exchanges l.up);
  at : g.U.PollUpstream.at l.up ≡ g.U.PollUpstream.at l.fn.up;
  unmarked : NoneCame (g.U.PollUpstream.marks l.fn.up) (g.U.PollUpstream.marks l.up);
  faults : g.U.PollUpstream.faults l.fn.up ≤ g.U.PollUpstream.faults l.up;
  waits : g.U.PollUpstream.waits l.fn.up ≤ g.U.PollUpstream.waits l.up;
  task : KeepsTask l.fn.cx l.cx;
  same : g.U.PollUpstream.source l.up ≡ g.U.PollUpstream.source l.fn.up;
  goes : g.U.PollUpstream.becomes l.fn.up l.up;
  none : l.sent ≡ l.fn.sent → l.up ≡ l.fn.up;
}

abbrev pub decreases-pieces : goal.decreases-pieces
decreases-pieces g l = length l.piece - l.sent

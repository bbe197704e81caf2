use Rattle.std.proofs.Common.{◌≡◌, ◌≤◌, ◌-◌, drop, length, take}
use Rattle.futures.specs.Task.{Keeps as KeepsTask}
use Rattle.gw_link.specs.Pieces.{Takes, Keeps}
use Rattle.gw_polling.specs.Polls.{NoneCame}
use Rattle.gw_polling.proofs.poll_link.write_on.Given as goal

abbrev pub invariant-pieces : goal.invariant-pieces
invariant-pieces g l = record {
  later : l.fn.at ≤ l.at;
  within : l.at ≤ length l.piece;
  taken : Takes (g.K.PollLink.written l.fn.link) (take (l.at - l.fn.at) (drop l.fn.at l.piece)) (g.K.PollLink.written l.link);
  unread : Keeps (g.K.PollLink.left l.fn.link) (g.K.PollLink.left l.link);
  unended : Keeps (g.K.PollLink.end l.fn.link) (g.K.PollLink.end l.link);
  unmarked : NoneCame (g.K.PollLink.marks l.fn.link) (g.K.PollLink.marks l.link);
  faults : g.K.PollLink.faults l.fn.link ≤ g.K.PollLink.faults l.link;
  waits : g.K.PollLink.write_waits l.fn.link ≤ g.K.PollLink.write_waits l.link;
  unwaited : g.K.PollLink.read_waits l.link ≡ g.K.PollLink.read_waits l.fn.link;
  task : KeepsTask l.fn.cx l.cx;
  same : g.K.PollLink.source l.link ≡ g.K.PollLink.source l.fn.link;
  none : l.at ≡ l.fn.at → l.link ≡ l.fn.link;
}

abbrev pub decreases-pieces : goal.decreases-pieces
decreases-pieces g l = length l.piece - l.at

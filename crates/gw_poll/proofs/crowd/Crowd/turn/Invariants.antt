-- The polls so far.
use Rattle.std.proofs.Common.{◌≡◌, ◌≤◌, length, vec_capacity}
use Rattle.futures.specs.Task.{Keeps as KeepsTask}
use Rattle.gw_snap.specs.Lists.{BeginsWith}
use Rattle.gw_poll.specs.Crowds.{IsTurning}
use Rattle.gw_poll.proofs.crowd.Crowd.turn.Given as goal

abbrev pub invariant-named : goal.invariant-named
invariant-named g l = record {
  turns : IsTurning g.K.PollLink g.U.PollUpstream l.cx l.fn.self.door l.fn.self.worker l.self.worker l.fn.self.members.items l.self.members.items l.waiting.items l.gone.items l.ready l.number-index;
  waiting_room : length l.fn.self.members.items ≤ vec_capacity l.waiting;
  gone_room : length l.fn.self.members.items ≤ vec_capacity l.gone;
  room : vec_capacity l.self.members ≡ vec_capacity l.fn.self.members;
  fixed : l.self.worker.pass.fixed ≡ l.fn.self.worker.pass.fixed;
  door : l.self.door ≡ l.fn.self.door;
  later : BeginsWith l.fn.self.worker.pass.seen l.self.worker.pass.seen;
  task : KeepsTask l.fn.cx l.cx;
}

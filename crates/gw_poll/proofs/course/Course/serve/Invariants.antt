-- The connection went on so far.
use Rattle.std.proofs.Common.{◌≡◌, ℕ, List}
use Rattle.futures.specs.Task.{Keeps as KeepsTask}
use Rattle.gw_frames.specs.Inlets.{is_over}
use Rattle.gw_worker.specs.Flows.{outside}
use Rattle.gw_worker.specs.Stays.{PassStays}
use Rattle.gw_worker.specs.Workers.{IsAt}
use Rattle.gw_worker.specs.model.Sessions.{Place}
use Rattle.gw_poll.specs.Courses.{Follows, GoesTo, IsGoing, IsHeld, steps_left}
use Rattle.gw_poll.specs.Histories.{History}
use Rattle.gw_poll.specs.Stays.{LinkStays}
use Rattle.gw_poll_exchange.specs.Stays.{UpstreamStays}
use Rattle.gw_poll.proofs.course.Course.serve.Given as goal

abbrev pub invariant-turns : goal.invariant-turns
invariant-turns g l = record {
  goes : (p : Place) (h : History) → IsAt l.fn.w p → Follows p l.fn.self h
      → GoesTo (g.U.PollUpstream.refuses l.fn.up l.up) p l.fn.w l.w l.self h (g.K.PollLink.left l.fn.link) (g.K.PollLink.left l.link)
      (outside (g.K.PollLink.written l.fn.link) (g.U.PollUpstream.exchanges l.fn.up) (g.U.PollUpstream.faults l.fn.up))
      (outside (g.K.PollLink.written l.link) (g.U.PollUpstream.exchanges l.up) (g.U.PollUpstream.faults l.up));
  going : (bytes : List ℕ) → IsGoing l.fn.self bytes → IsGoing l.self bytes;
  held : IsHeld l.self.stage (g.U.PollUpstream.at l.up);
  over : is_over l.self.conn.inlet ≡ is_over l.fn.self.conn.inlet;
  pass : PassStays l.fn.w l.w;
  refused : l.w.pass.refused ≡ l.fn.w.pass.refused;
  link : LinkStays g.K.PollLink l.fn.link l.link;
  up : UpstreamStays g.U.PollUpstream l.fn.up l.up;
  task : KeepsTask l.fn.cx l.cx;
  door : l.self.conn.door ≡ l.fn.self.conn.door;
}

abbrev pub decreases-turns : goal.decreases-turns
decreases-turns g l = steps_left l.self

-- The connection went on so far, and so many bytes were taken.
use Rattle.std.proofs.Common.{◌≡◌, ◌≤◌, ◌+◌, ◌-◌, ◌⊎◌, ℕ, true, List, ◌++◌, length}
use Rattle.futures.specs.Task.{Keeps as KeepsTask}
use Rattle.gw_frames.specs.Inlets.{is_over}
use Rattle.gw_exchange.specs.declared.backend.TheConstants.{MOST_PIECE}
use Rattle.gw_message_laws.specs.declared.requests.TheConstants.{MOST_OPEN_BYTES}
use Rattle.gw_worker.specs.Flows.{outside}
use Rattle.gw_worker.specs.Stays.{PassStays}
use Rattle.gw_worker.specs.Workers.{IsAt}
use Rattle.gw_worker.specs.model.Sessions.{Place}
use Rattle.gw_poll.specs.Courses.{Follows, GoesTo, IsGoing, IsHeld}
use Rattle.gw_poll.specs.Histories.{History}
use Rattle.gw_poll.specs.Stays.{LinkGoesOn}
use Rattle.gw_poll_exchange.specs.Stays.{UpstreamStays}
use Rattle.gw_poll.proofs.Stepping.{not_over}
use Rattle.gw_poll.proofs.Waiting.{StandsEnd}
use Rattle.gw_poll.proofs.course.Course.poll.Given as goal

abbrev pub invariant-pieces : goal.invariant-pieces
invariant-pieces g l = record {
  goes : (p : Place) (h : History) → IsAt l.fn.w p → Follows p l.fn.self h
      → GoesTo (g.U.PollUpstream.refuses l.fn.up l.up) p l.fn.w l.w l.self h (g.K.PollLink.left l.fn.link) (g.K.PollLink.left l.link)
      (outside (g.K.PollLink.written l.fn.link) (g.U.PollUpstream.exchanges l.fn.up) (g.U.PollUpstream.faults l.fn.up))
      (outside (g.K.PollLink.written l.link) (g.U.PollUpstream.exchanges l.up) (g.U.PollUpstream.faults l.up));
  going : (bytes : List ℕ) → IsGoing l.fn.self bytes → (more : List ℕ) × ((length more ≡ l.taken) × IsGoing l.self (bytes ++ more));
  few : l.taken ≤ MOST_OPEN_BYTES + MOST_PIECE;
  held : IsHeld l.self.stage (g.U.PollUpstream.at l.up);
  over : is_over l.self.conn.inlet ≡ true → (is_over l.fn.self.conn.inlet ≡ true) ⊎ StandsEnd (g.K.PollLink.end l.fn.link) (g.K.PollLink.end l.link);
  pass : PassStays l.fn.w l.w;
  refused : l.w.pass.refused ≡ l.fn.w.pass.refused;
  link : LinkGoesOn g.K.PollLink l.fn.link l.link;
  up : UpstreamStays g.U.PollUpstream l.fn.up l.up;
  task : KeepsTask l.fn.cx l.cx;
  door : l.self.conn.door ≡ l.fn.self.conn.door;
}

abbrev pub decreases-pieces : goal.decreases-pieces
decreases-pieces g l = MOST_OPEN_BYTES + MOST_PIECE - l.taken + not_over (is_over l.self.conn.inlet)

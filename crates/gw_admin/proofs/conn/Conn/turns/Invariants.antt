-- The connection went on so far, and hasn't ended.
use Rattle.std.proofs.Common.{◌≡◌, ◌≤◌, ℕ, List, None}
use Rattle.gw_frames.specs.Inlets.{is_over, steps_left}
use Rattle.gw_link.specs.Pieces.{Keeps}
use Rattle.gw_lists.specs.Lists.{BeginsWith}
use Rattle.gw_admin.specs.Answering.{place_of}
use Rattle.gw_admin.specs.Conns.{IsReading, IsServing, Turned, outside}
use Rattle.gw_admin.specs.Faults.{CountsNothing}
use Rattle.gw_admin.specs.model.Sessions.{Part}
use Rattle.gw_admin.proofs.conn.Conn.turns.Given as goal

abbrev pub invariant-turns : goal.invariant-turns
invariant-turns g l = record {
  turned : (bytes : List ℕ) (parts : List Part) → IsReading l.fn.self bytes parts
      → Turned (place_of g.N.HubName.doors g.N.HubName.controller) l.self (is_over l.self.inlet) bytes parts
      (outside l.fn.pass.seen (g.C.Clock.moments l.fn.clock) (g.K.Link.written l.fn.link)) (outside l.pass.seen (g.C.Clock.moments l.clock) (g.K.Link.written l.link)) None;
  serving : IsServing l.self;
  over : is_over l.self.inlet ≡ is_over l.fn.self.inlet;
  counts : CountsNothing l.fn.pass l.pass;
  unread : Keeps (g.K.Link.left l.fn.link) (g.K.Link.left l.link);
  link_later : g.K.Link.faults l.fn.link ≤ g.K.Link.faults l.link;
  later : BeginsWith l.fn.pass.seen l.pass.seen;
  book : l.pass.book ≡ l.fn.pass.book;
  fixed : l.pass.fixed ≡ l.fn.pass.fixed;
}

abbrev pub decreases-turns : goal.decreases-turns
decreases-turns g l = steps_left l.self.inlet

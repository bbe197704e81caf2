-- The connection went on so far, and so many bytes were taken.
use Rattle.std.proofs.Common.{◌≡◌, ◌≤◌, ◌+◌, ◌-◌, ℕ, List, [], false, None, length}
use Rattle.gw_frames.specs.Inlets.{is_over}
use Rattle.gw_link.specs.Pieces.{Gives}
use Rattle.gw_lists.specs.Lists.{BeginsWith}
use Rattle.gw_message_laws.specs.declared.requests.TheConstants.{MOST_OPEN_BYTES}
use Rattle.gw_admin.specs.Answering.{place_of}
use Rattle.gw_admin.specs.Conns.{IsServing, Turned, outside}
use Rattle.gw_admin.specs.Faults.{CountsNothing}
use Rattle.gw_admin.proofs.serve.pieces.Given as goal

abbrev pub invariant-pieces : goal.invariant-pieces
invariant-pieces g l = record {
  turned : (bytes : List ℕ) × (Gives (g.K.Link.left l.fn.link) bytes (g.K.Link.left l.link)
      × Turned (place_of g.N.HubName.doors g.N.HubName.controller) l.conn false bytes []
      (outside l.fn.pass.seen (g.C.Clock.moments l.fn.clock) (g.K.Link.written l.fn.link)) (outside l.pass.seen (g.C.Clock.moments l.clock) (g.K.Link.written l.link)) None
      × (l.taken ≡ length bytes));
  few : l.taken ≤ MOST_OPEN_BYTES;
  serving : IsServing l.conn;
  unfinished : is_over l.conn.inlet ≡ false;
  counts : CountsNothing l.fn.pass l.pass;
  link_later : g.K.Link.faults l.fn.link ≤ g.K.Link.faults l.link;
  later : BeginsWith l.fn.pass.seen l.pass.seen;
  book : l.pass.book ≡ l.fn.pass.book;
  fixed : l.pass.fixed ≡ l.fn.pass.fixed;
}

abbrev pub decreases-pieces : goal.decreases-pieces
decreases-pieces g l = MOST_OPEN_BYTES + 1 - l.taken

-- The connection went on so far, and so many bytes were taken.
use Rattle.std.proofs.Common.{◌≡◌, ◌≤◌, ◌+◌, ◌-◌, ℕ, List, ◌++◌, length}
use Rattle.gw_link.specs.Pieces.{Gives}
use Rattle.gw_message_laws.specs.declared.requests.TheConstants.{MOST_OPEN_BYTES}
use Rattle.gw_worker.specs.Conns.{IsFed, IsServing, StandsFor}
use Rattle.gw_worker.specs.Flows.{Took, outside}
use Rattle.gw_worker.specs.Stays.{PassStays, UpstreamStays}
use Rattle.gw_worker.specs.Workers.{IsAt}
use Rattle.gw_worker.specs.model.Sessions.{Part, Place}
use Rattle.gw_worker.proofs.serve.serve.Given as goal

abbrev pub invariant-pieces : goal.invariant-pieces
invariant-pieces g l = record {
  took : (piece : List ℕ) × (Gives (g.K.Link.left l.fn.link) piece (g.K.Link.left l.link)
      × ((bytes : List ℕ) → IsFed l.fn.conn bytes → IsFed l.conn (bytes ++ piece))
      × ((p : Place) (bytes : List ℕ) (parts : List Part) (text : List ℕ) → IsAt l.fn.w p → StandsFor l.fn.conn p bytes parts text
      → Took (g.U.Upstream.refuses l.fn.up l.up) p l.fn.w l.w l.conn (bytes ++ piece) parts text
      (outside (g.K.Link.written l.fn.link) (g.U.Upstream.exchanges l.fn.up) (g.U.Upstream.faults l.fn.up))
      (outside (g.K.Link.written l.link) (g.U.Upstream.exchanges l.up) (g.U.Upstream.faults l.up)))
      × (l.taken ≡ length piece));
  few : l.taken ≤ MOST_OPEN_BYTES;
  serving : IsServing l.conn;
  link_later : g.K.Link.faults l.fn.link ≤ g.K.Link.faults l.link;
  refused : l.w.pass.refused ≡ l.fn.w.pass.refused;
  up : UpstreamStays g.U.Upstream l.fn.up l.up;
  pass : PassStays l.fn.w l.w;
  door : l.conn.door ≡ l.fn.conn.door;
}

abbrev pub decreases-pieces : goal.decreases-pieces
decreases-pieces g l = MOST_OPEN_BYTES + 1 - l.taken

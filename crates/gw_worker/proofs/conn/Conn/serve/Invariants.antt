-- The connection went on so far.
use Rattle.std.proofs.Common.{◌≡◌, ℕ, List}
use Rattle.gw_frames.specs.Inlets.{is_over}
use Rattle.gw_worker.specs.Conns.{GoesOn, IsSettled, StandsFor, turns_left}
use Rattle.gw_worker.specs.Flows.{Took, outside}
use Rattle.gw_worker.specs.Stays.{LinkStays, PassStays, UpstreamStays}
use Rattle.gw_worker.specs.Workers.{IsAt}
use Rattle.gw_worker.specs.model.Sessions.{Part, Place}
use Rattle.gw_worker.proofs.conn.Conn.serve.Given as goal

abbrev pub invariant-turns : goal.invariant-turns
invariant-turns g l = record {
  took : (p : Place) (bytes : List ℕ) (parts : List Part) (text : List ℕ) → IsAt l.fn.w p → StandsFor l.fn.self p bytes parts text
      → Took (g.U.Upstream.refuses l.fn.up l.up) p l.fn.w l.w l.self bytes parts text
      (outside (g.K.Link.written l.fn.link) (g.U.Upstream.exchanges l.fn.up) (g.U.Upstream.faults l.fn.up))
      (outside (g.K.Link.written l.link) (g.U.Upstream.exchanges l.up) (g.U.Upstream.faults l.up));
  settled : IsSettled l.self.stage;
  inlet : GoesOn l.fn.self.inlet l.self.inlet;
  over : is_over l.self.inlet ≡ is_over l.fn.self.inlet;
  refused : l.w.pass.refused ≡ l.fn.w.pass.refused;
  link : LinkStays g.K.Link l.fn.link l.link;
  up : UpstreamStays g.U.Upstream l.fn.up l.up;
  pass : PassStays l.fn.w l.w;
  door : l.self.door ≡ l.fn.self.door;
}

abbrev pub decreases-turns : goal.decreases-turns
decreases-turns g l = turns_left l.self

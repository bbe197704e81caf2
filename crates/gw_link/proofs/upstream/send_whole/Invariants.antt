use Rattle.std.proofs.Common.{length, ◌-◌, ◌≡◌, ◌≤◌, take, true}
use Rattle.gw_link.specs.Exchanges.{Sends}
use Rattle.gw_link.proofs.upstream.send_whole.Given as goal

abbrev pub invariant-pieces : goal.invariant-pieces
invariant-pieces g l = record {
  within : l.at ≤ length l.piece;
  sent : Sends (g.U.Upstream.exchanges l.fn.up) (take l.at l.piece) (g.U.Upstream.exchanges l.up);
  at : g.U.Upstream.at l.up ≡ g.U.Upstream.at l.fn.up;
  later : g.U.Upstream.faults l.fn.up ≤ g.U.Upstream.faults l.up;
  goes : g.U.Upstream.becomes l.fn.up l.up;
  none : l.at ≡ 0 → l.up ≡ l.fn.up;
}

abbrev pub decreases-pieces : goal.decreases-pieces
decreases-pieces g l = length l.piece - l.at
